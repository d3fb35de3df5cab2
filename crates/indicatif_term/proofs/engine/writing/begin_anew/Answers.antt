use Rattle.indicatif_term.proofs.CallTurnLemmas.{reaches_none}
use Rattle.indicatif_term.proofs.engine.writing.begin_anew.Goals as goal

pub returns-then-not-anew : goal.returns-then-not-anew
returns-then-not-anew g c = rw c.if-not-anew.true (reaches_none _)
