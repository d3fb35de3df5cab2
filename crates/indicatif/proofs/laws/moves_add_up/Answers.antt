use Rattle.indicatif.proofs.SeekLemmas.{moves-add}
use Rattle.indicatif.proofs.laws.moves_add_up.Goals as goal

pub returns : goal.returns
returns c = moves-add
