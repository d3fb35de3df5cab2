use Rattle.indicatif_bar.specs.LoneBars.{lone_bar}
use Rattle.indicatif_bar.proofs.AnswerLemmas.{each_says}
use Rattle.indicatif_bar.proofs.laws.what_a_lone_bar_answers.Goals as goal

pub returns : goal.returns
returns g c = each_says (lone_bar g.K.Tracks.means)
