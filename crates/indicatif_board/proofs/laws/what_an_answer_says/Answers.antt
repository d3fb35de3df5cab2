use Rattle.indicatif_board.specs.Boards.{board}
use Rattle.indicatif_bar.proofs.AnswerLemmas.{each_says}
use Rattle.indicatif_board.proofs.laws.what_an_answer_says.Goals as goal

pub returns : goal.returns
returns g c = λ kind mark. each_says (board kind mark)
