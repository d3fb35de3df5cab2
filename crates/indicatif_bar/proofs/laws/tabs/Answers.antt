use Rattle.indicatif_bar.proofs.TabLemmas.{tabs_are_gone, others_stay}
use Rattle.indicatif_bar.proofs.laws.tabs.Goals as goal

pub returns-clause-gone : goal.returns-clause-gone
returns-clause-gone c = tabs_are_gone

pub returns-clause-others : goal.returns-clause-others
returns-clause-others c = others_stay
