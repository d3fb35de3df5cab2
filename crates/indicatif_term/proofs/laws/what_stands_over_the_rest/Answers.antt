use Rattle.indicatif_term.proofs.EngineLemmas.{over_own}
use Rattle.indicatif_term.proofs.OverLawLemmas.{stands_over}
use Rattle.indicatif_term.proofs.laws.what_stands_over_the_rest.Goals as goal

pub returns-clause-shows : goal.returns-clause-shows
returns-clause-shows c = stands_over

pub returns-clause-same : goal.returns-clause-same
returns-clause-same c = over_own
