use Rattle.indicatif_bar.proofs.PlainRunLemmas.{lone_runs_are_plain}
use Rattle.indicatif_bar.proofs.laws.plain_texts_give_plain_runs.Goals as goal

pub returns : goal.returns
returns g c = lone_runs_are_plain g.K.Tracks.means
