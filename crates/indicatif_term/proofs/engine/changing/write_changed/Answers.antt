use Rattle.std.proofs.Common.{◌++◌, ◌-◌}
use Rattle.std.specs.Prelude.{string_bytes}
use Rattle.indicatif_term.specs.Calls.{move_bytes, clear_bytes}
use Rattle.indicatif_term.specs.Inside.MoveBytes.{rows_down}
use Rattle.indicatif_term.specs.Inside.Changing.{emptied_bytes}
use Rattle.indicatif_term.proofs.CallTurnLemmas.{sends_then, sends_fail, reaches_then, breaks_then}
use Rattle.indicatif_term.proofs.WalkLemmas.{four, four_two}
use Rattle.indicatif_term.proofs.engine.changing.write_changed.Goals as goal

pub returns-in_err-go_down : goal.returns-in_err-go_down
returns-in_err-go_down g c = sends_fail (emptied_bytes c.args.line.now.rows ++ string_bytes c.args.line.now.text) _ c.from_residual.result c.from_residual.ensures.1 c.in_err-go_down.ensures

pub returns-in_err-empty_down : goal.returns-in_err-empty_down
returns-in_err-empty_down g c =
    let n = c.args.line.now.rows - 1 in
    rw (← four_two (move_bytes 0x42 c.args.down) (clear_bytes ++ rows_down n) (move_bytes 0x41 n) (string_bytes c.args.line.now.text))
    (sends_fail (move_bytes 0x41 n ++ string_bytes c.args.line.now.text) _ c.from_residual-in_err-empty_down.result c.from_residual-in_err-empty_down.ensures.1
    (breaks_then c.in_ok-go_down.ensures (rw c.saturating_sub-more.ensures at c.in_err-empty_down.ensures)))

pub returns-in_err-go_up : goal.returns-in_err-go_up
returns-in_err-go_up g c =
    let n = c.args.line.now.rows - 1 in
    rw (← four (move_bytes 0x42 c.args.down) (clear_bytes ++ rows_down n) (move_bytes 0x41 n) (string_bytes c.args.line.now.text))
    (sends_fail (string_bytes c.args.line.now.text) _ c.from_residual-in_err-go_up.result c.from_residual-in_err-go_up.ensures.1
    (breaks_then (reaches_then c.in_ok-go_down.ensures (rw c.saturating_sub-more.ensures at c.in_ok-empty_down.ensures)) (rw c.saturating_sub-more.ensures at c.in_err-go_up.ensures)))

pub returns : goal.returns
returns g c =
    let n = c.args.line.now.rows - 1 in
    rw (← four (move_bytes 0x42 c.args.down) (clear_bytes ++ rows_down n) (move_bytes 0x41 n) (string_bytes c.args.line.now.text))
    (sends_then (string_bytes c.args.line.now.text) _ c.put_str.result
    (reaches_then (reaches_then c.in_ok-go_down.ensures (rw c.saturating_sub-more.ensures at c.in_ok-empty_down.ensures)) (rw c.saturating_sub-more.ensures at c.in_ok-go_up.ensures))
    (rw c.deref.ensures at c.put_str.ensures))
