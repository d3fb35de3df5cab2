use Rattle.std.proofs.Common.{◌-◌, ◌++◌, ◌∷◌, []}
use Rattle.indicatif_term.specs.Calls.{move_bytes}
use Rattle.indicatif_term.proofs.CallTurnLemmas.{sends_then, sends_fail, reaches_then, breaks_then}
use Rattle.indicatif_term.proofs.WalkLemmas.{in_four, in_three}
use Rattle.indicatif_term.proofs.engine.changing.write_end.Goals as goal

pub returns-in_err-go_down : goal.returns-in_err-go_down
returns-in_err-go_down g c =
    sends_fail ((0x0D ∷ []) ++ (move_bytes 0x43 (c.args.width - 1) ++ c.args.text.now)) _ c.from_residual.result c.from_residual.ensures.1 c.in_err-go_down.ensures

pub returns-in_err-put_str : goal.returns-in_err-put_str
returns-in_err-put_str g c =
    rw (in_three (move_bytes 0x42 c.args.down) (0x0D ∷ []) (move_bytes 0x43 (c.args.width - 1) ++ c.args.text.now))
    (sends_fail (move_bytes 0x43 (c.args.width - 1) ++ c.args.text.now) _ c.from_residual-in_err-put_str.result c.from_residual-in_err-put_str.ensures.1
    (breaks_then c.in_ok-go_down.ensures c.in_err-put_str.ensures))

pub returns-in_err-go_right : goal.returns-in_err-go_right
returns-in_err-go_right g c =
    rw (in_four (move_bytes 0x42 c.args.down) (0x0D ∷ []) (move_bytes 0x43 (c.args.width - 1)) c.args.text.now)
    (sends_fail c.args.text.now _ c.from_residual-in_err-go_right.result c.from_residual-in_err-go_right.ensures.1
    (breaks_then (reaches_then c.in_ok-go_down.ensures c.in_ok-put_str.ensures) (rw c.saturating_sub.ensures at c.in_err-go_right.ensures)))

pub returns : goal.returns
returns g c =
    rw (in_four (move_bytes 0x42 c.args.down) (0x0D ∷ []) (move_bytes 0x43 (c.args.width - 1)) c.args.text.now)
    (sends_then c.args.text.now _ c.put_str-2.result (reaches_then (reaches_then c.in_ok-go_down.ensures c.in_ok-put_str.ensures) (rw c.saturating_sub.ensures at c.in_ok-go_right.ensures))
    c.put_str-2.ensures)
