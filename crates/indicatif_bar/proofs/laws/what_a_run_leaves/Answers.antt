use Rattle.indicatif_bar.proofs.RunLemmas.{headline}
use Rattle.indicatif_bar.proofs.laws.what_a_run_leaves.Goals as goal

pub returns : goal.returns
returns g c = λ m. headline m
