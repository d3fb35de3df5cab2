use Rattle.indicatif_bar.proofs.RunLemmas.{one_outcome}
use Rattle.indicatif_bar.proofs.laws.one_outcome.Goals as goal

pub returns : goal.returns
returns g c = λ m. one_outcome m
