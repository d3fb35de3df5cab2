use Rattle.indicatif_term.specs.Calls.{clear_bytes}
use Rattle.indicatif_term.proofs.CallTurnLemmas.{sends_then, sends_fail}
use Rattle.indicatif_term.proofs.engine.writing.empty_next.Goals as goal

pub returns-in_err-told : goal.returns-in_err-told
returns-in_err-told g c = sends_fail clear_bytes _ c.from_residual.result c.from_residual.ensures.1 (c.in_err-told.ensures _ _ _ c.write_line.ensures)

pub returns : goal.returns
returns g c = sends_then clear_bytes _ c.told-2.result (c.in_ok-told.ensures _ _ _ c.write_line.ensures) (c.told-2.ensures _ _ _ c.clear_line.ensures)
