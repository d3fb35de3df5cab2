use Rattle.std.proofs.Common.{map, ap, ◌∙◌}
use Rattle.std.specs.Arc.{arc_value}
use Rattle.indicatif_bar.specs.Inside.Steps.{effect_of_part}
use Rattle.indicatif_bar.proofs.LinesLemmas.{keys_stay}
use Rattle.indicatif_bar.proofs.style.ProgressStyle.tick_trackers.Goals as goal

pub invariant_of-self : goal.invariant_of-self
invariant_of-self g c =
    let stay = keys_stay (λ k. g.K.Tracks.means.ticked k c.args.state.now c.args.now) c.self.inside.keys.items c.tick_all.new.keys.items c.tick_all.ensures in (
      c.self.invariant.0 ∙ ap (λ ns. map (effect_of_part ns c.self.inside.tab) (arc_value c.self.inside.template)) stay,
      c.self.invariant.1,
      c.self.invariant.2,
      c.self.invariant.3,
      c.self.invariant.4,
      c.self.invariant.5,
    )
