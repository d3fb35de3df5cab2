use Rattle.indicatif_bar.proofs.PlainRunLemmas.{tellers_are_plain}
use Rattle.indicatif_bar.proofs.laws.plain_tellers_are_plain_trackers.Goals as goal

pub returns : goal.returns
returns g c = tellers_are_plain
