use Rattle.indicatif.proofs.RingLemmas.{last-all}
use Rattle.indicatif.proofs.laws.the_last_updates_stay.Goals as goal

pub returns : goal.returns
returns c = last-all
