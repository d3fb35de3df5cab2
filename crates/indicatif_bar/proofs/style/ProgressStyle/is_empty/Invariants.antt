use Rattle.std.proofs.Common.{◌≡◌, map, drop}
use Rattle.std.specs.List.{list_all}
use Rattle.indicatif_bar.specs.Inside.Steps.{effect_of, is_empty_effect}
use Rattle.indicatif_bar.proofs.style.ProgressStyle.is_empty.Given as goal

abbrev pub invariant-loop-step : goal.invariant-loop-step
invariant-loop-step g l =
    list_all (is_empty_effect l.self l.state) (map (effect_of l.template) (drop l.step-index l.step-items))
    ≡ list_all (is_empty_effect l.self l.state) (map (effect_of l.template) l.step-items)
