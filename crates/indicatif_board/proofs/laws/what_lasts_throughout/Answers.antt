use Rattle.indicatif_bar.proofs.RunLemmas.{rows_last}
use Rattle.indicatif_board.specs.Boards.{board}
use Rattle.indicatif_board.proofs.laws.what_lasts_throughout.Goals as goal

pub returns : goal.returns
returns g c = λ kind mark. rows_last (board kind mark)
