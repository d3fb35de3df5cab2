use Rattle.std.proofs.Common.{subst}
use Rattle.std.specs.Fn.{FnOnceReturnsAt}
use Rattle.indicatif.specs.Fronts.{CanUpdate}
use Rattle.indicatif.proofs.FrontLemmas.{update_answers}
use Rattle.indicatif.proofs.shared.shared_bar.SharedBar.update.Goals as goal

pub returns-in-Made : goal.returns-in-Made
returns-in-Made g c =
    let R = FnOnceReturnsAt g.F.FnOnce c.loop.left in
    subst (λ f. CanUpdate g.row.K.Denot (FnOnceReturnsAt g.F.FnOnce f) c.in-Made.answer) c.loop.invariant
    (update_answers g.K.Tracks.means g.T.TermLike.view R _ _ c.in-Made.answer c.in-Made.ensures)
