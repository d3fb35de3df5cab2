use Rattle.indicatif_bar.proofs.RunLemmas.{rows_last}
use Rattle.indicatif_bar.proofs.laws.what_lasts_throughout.Goals as goal

pub returns : goal.returns
returns g c = λ m. rows_last m
