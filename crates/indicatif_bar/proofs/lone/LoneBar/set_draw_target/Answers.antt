use Rattle.std.proofs.Common.{◌≡◌, subst}
use Rattle.std.specs.Prelude.{IfSome}
use Rattle.indicatif_bar.specs.LoneBars.{LoneIsIn}
use Rattle.indicatif_bar.proofs.lone.LoneBar.set_draw_target.Goals as goal

pub returns-clause-old_limiter : goal.returns-clause-old_limiter
unfolding LoneIsIn
returns-clause-old_limiter g c = λ s inside.
    subst (λ l. IfSome c.set_draw_target.result (λ t. t.1 ≡ l)) inside.1.0 c.set_draw_target.ensures.old_limiter

pub returns-clause-state : goal.returns-clause-state
unfolding LoneIsIn
returns-clause-state g c = λ s inside. (inside.0, c.set_draw_target.ensures.staged)
