use Rattle.indicatif_bar.proofs.AnswerLemmas.{each_says}
use Rattle.indicatif_bar.proofs.laws.what_an_answer_says.Goals as goal

pub returns : goal.returns
returns g c = λ m. each_says m
