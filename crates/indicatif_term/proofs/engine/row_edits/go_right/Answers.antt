use Rattle.indicatif_term.proofs.CallTurnLemmas.{reaches_none}
use Rattle.indicatif_term.proofs.engine.row_edits.go_right.Goals as goal

pub returns-then-columns-eq0 : goal.returns-then-columns-eq0
returns-then-columns-eq0 g c = rw c.if-columns-eq0.true (reaches_none _)
