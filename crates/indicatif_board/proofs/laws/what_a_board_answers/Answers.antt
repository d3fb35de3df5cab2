use Rattle.indicatif_board.specs.BoardBars.{board_bars}
use Rattle.indicatif_board.specs.Boards.{board}
use Rattle.indicatif_bar.proofs.AnswerLemmas.{each_says}
use Rattle.indicatif_board.proofs.laws.what_a_board_answers.Goals as goal

pub returns : goal.returns
returns g c = λ mark. each_says (board (board_bars g.K.Tracks.means) mark)
