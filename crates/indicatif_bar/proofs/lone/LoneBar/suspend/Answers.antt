use Rattle.std.proofs.Common.{refl, inl, inr}
use Rattle.indicatif_bar.specs.LoneBars.{lone_known}
use Rattle.indicatif_bar.proofs.lone.LoneBar.suspend.Goals as goal

pub returns-in-Ok-clause-leads : goal.returns-in-Ok-clause-leads
returns-in-Ok-clause-leads g c = λ s inside.
    let view = g.T.TermLike.view in
    let cleared = c.in-Ok.ensures.leads s inside in
    let drawn = c.force_draw-drawn.ensures.leads cleared.0 cleared.1 in (
      drawn.0,
      drawn.1,
      inl (c.in-Ok.field-0, (lone_known view c.clear-cleared.new.self, cleared.0, cleared.2, (lone_known view c.force_draw-drawn.new.self, drawn.0, drawn.2, (refl, refl)))),
    )

pub returns-in-Err-clause-leads : goal.returns-in-Err-clause-leads
returns-in-Err-clause-leads g c = λ s inside.
    let cleared = c.in-Err.ensures.leads s inside in
    (cleared.0, cleared.1, inr (c.in-Err.e, refl, (lone_known g.T.TermLike.view c.clear-cleared.new.self, cleared.0, cleared.2, (refl, refl))))
