use Rattle.indicatif_bar.proofs.RunLemmas.{read_after}
use Rattle.indicatif_bar.proofs.laws.what_a_run_reads.Goals as goal

pub returns : goal.returns
returns g c = λ m. read_after m
