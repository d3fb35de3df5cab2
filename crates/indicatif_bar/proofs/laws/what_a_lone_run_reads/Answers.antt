use Rattle.indicatif_bar.specs.Bars.{bar_kind}
use Rattle.indicatif_bar.proofs.LoneRunLemmas.{lone_read_after}
use Rattle.indicatif_bar.proofs.laws.what_a_lone_run_reads.Goals as goal

pub returns : goal.returns
returns g c = lone_read_after (bar_kind g.K.Tracks.means)
