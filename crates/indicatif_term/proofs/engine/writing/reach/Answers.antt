use Rattle.std.proofs.Common.{arith}
use Rattle.indicatif_term.proofs.CallTurnLemmas.{reaches_none, sends_then, sends_fail, reach_some}
use Rattle.indicatif_term.proofs.engine.writing.reach.Goals as goal

pub returns-then-fresh-eq0 : goal.returns-then-fresh-eq0
returns-then-fresh-eq0 g c = rw c.if-fresh-eq0.true (reaches_none _)

pub returns-in_err-go_down : goal.returns-in_err-go_down
returns-in_err-go_down g c = rw (reach_some c.args.fresh.down c.args.fresh.rows (omega arith))
    (sends_fail _ _ c.from_residual.result c.from_residual.ensures.1 c.in_err-go_down.ensures)

pub returns-in_err-empty_below : goal.returns-in_err-empty_below
returns-in_err-empty_below g c = rw (reach_some c.args.fresh.down c.args.fresh.rows (omega arith))
    (sends_then _ _ c.from_residual-in_err-empty_below.result c.in_ok-go_down.ensures
    (sends_fail _ _ c.from_residual-in_err-empty_below.result c.from_residual-in_err-empty_below.ensures.1 c.in_err-empty_below.ensures))

pub returns : goal.returns
returns g c = rw (reach_some c.args.fresh.down c.args.fresh.rows (omega arith))
    (sends_then _ _ c.go_up.result c.in_ok-go_down.ensures (sends_then _ _ c.go_up.result c.in_ok-empty_below.ensures c.go_up.ensures))
