use Rattle.indicatif_bar.proofs.RunLemmas.{bytes_read}
use Rattle.indicatif_board.specs.Boards.{board}
use Rattle.indicatif_board.proofs.laws.what_is_read_throughout.Goals as goal

pub returns : goal.returns
returns g c = λ kind mark. bytes_read (board kind mark)
