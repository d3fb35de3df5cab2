use Rattle.indicatif_term.specs.Inside.MoveBytes.{rows_down}
use Rattle.indicatif_term.proofs.CallTurnLemmas.{sends_then, sends_fail}
use Rattle.indicatif_term.proofs.engine.writing.empty_down.Goals as goal

pub returns-in_err-told : goal.returns-in_err-told
returns-in_err-told g c = sends_fail (rows_down c.args.more) _ c.from_residual.result c.from_residual.ensures.1 (c.in_err-told.ensures _ _ _ c.clear_line.ensures)

pub returns : goal.returns
returns g c = sends_then (rows_down c.args.more) _ c.empty_below.result (c.in_ok-told.ensures _ _ _ c.clear_line.ensures) c.empty_below.ensures
