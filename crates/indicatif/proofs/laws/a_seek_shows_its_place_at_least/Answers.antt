use Rattle.indicatif.proofs.SeekLemmas.{seek-at_least}
use Rattle.indicatif.proofs.laws.a_seek_shows_its_place_at_least.Goals as goal

pub returns : goal.returns
returns c = seek-at_least
