use Rattle.indicatif_board.specs.Boards.{board}
use Rattle.indicatif_bar.proofs.RunLemmas.{headline}
use Rattle.indicatif_board.proofs.laws.what_a_run_leaves.Goals as goal

pub returns : goal.returns
returns g c = λ kind mark. headline (board kind mark)
