use Rattle.indicatif.proofs.FrontLemmas.{resumed_draws}
use Rattle.indicatif.proofs.shared.shared_bar.SharedBar.suspend.Goals as goal

pub returns-in-Alone-clause-drawn : goal.returns-in-Alone-clause-drawn
returns-in-Alone-clause-drawn g c =
    resumed_draws g.K.Tracks.means g.T.TermLike.view _ _ c.in-Alone.pause.cleared c.resume-drawn.result c.in-Alone.pause.by_clear c.resume-drawn.ensures
