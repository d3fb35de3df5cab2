use Rattle.indicatif_board.specs.Boards.{board}
use Rattle.indicatif_bar.proofs.RunLemmas.{one_outcome}
use Rattle.indicatif_board.proofs.laws.one_outcome.Goals as goal

pub returns : goal.returns
returns g c = λ kind mark. one_outcome (board kind mark)
