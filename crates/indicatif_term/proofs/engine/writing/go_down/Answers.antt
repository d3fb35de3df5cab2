use Rattle.indicatif_term.proofs.CallTurnLemmas.{reaches_none}
use Rattle.indicatif_term.proofs.engine.writing.go_down.Goals as goal

pub returns-then-rows-eq0 : goal.returns-then-rows-eq0
returns-then-rows-eq0 g c = rw c.if-rows-eq0.true (reaches_none _)
