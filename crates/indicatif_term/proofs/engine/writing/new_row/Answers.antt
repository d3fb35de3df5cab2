use Rattle.indicatif_term.proofs.CallTurnLemmas.{reaches_none}
use Rattle.indicatif_term.proofs.engine.writing.new_row.Goals as goal

pub returns-else-asked : goal.returns-else-asked
returns-else-asked g c = rw c.if-asked.false (reaches_none _)
