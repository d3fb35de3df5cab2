use Rattle.std.proofs.Common.{arith, ◌++◌, ◌-◌}
use Rattle.indicatif_term.specs.Calls.{move_bytes, clear_bytes}
use Rattle.indicatif_term.specs.Inside.MoveBytes.{rows_down}
use Rattle.indicatif_term.proofs.CallTurnLemmas.{reaches_none, sends_then, sends_fail, reaches_then, breaks_then, breaks_early, back_some}
use Rattle.indicatif_term.proofs.engine.writing.take_back.Goals as goal

pub returns-then-rows-eq0 : goal.returns-then-rows-eq0
returns-then-rows-eq0 g c = rw c.if-rows-eq0.true (reaches_none (g.T.TermLike.view c.args.term.now))

pub returns-in_err-go_up : goal.returns-in_err-go_up
returns-in_err-go_up g c =
    let n = c.args.rows - 1 in
    rw (back_some c.args.below c.args.rows (omega (arith, c.if-rows-eq0.false)))
    (sends_fail (move_bytes 0x41 n) _ c.from_residual.result c.from_residual.ensures.1
    (breaks_early (clear_bytes ++ rows_down n) (rw c.rows_to_first.ensures at c.in_err-go_up.ensures)))

pub returns-in_err-empty_down : goal.returns-in_err-empty_down
returns-in_err-empty_down g c =
    rw (back_some c.args.below c.args.rows (omega (arith, c.if-rows-eq0.false)))
    (sends_fail (move_bytes 0x41 (c.args.rows - 1)) _ c.from_residual-in_err-empty_down.result c.from_residual-in_err-empty_down.ensures.1
    (breaks_then (rw c.rows_to_first.ensures at c.in_ok-go_up.ensures) c.in_err-empty_down.ensures))

pub returns : goal.returns
returns g c =
    rw (back_some c.args.below c.args.rows (omega (arith, c.if-rows-eq0.false)))
    (sends_then (move_bytes 0x41 (c.args.rows - 1)) _ c.go_up-2.result
    (reaches_then (rw c.rows_to_first.ensures at c.in_ok-go_up.ensures) c.in_ok-empty_down.ensures) c.go_up-2.ensures)
