use Rattle.std.proofs.Common.{◌≡◌, ◌-◌, ◌≤◌, length, map, take}
use Rattle.indicatif_bar.specs.Inside.Steps.{effect_of, effect_of_part, names_of}
use Rattle.indicatif_bar.proofs.style.steps.steps_of.Given as goal

abbrev pub invariant-parts : goal.invariant-parts
invariant-parts g l = record {
  does : map (effect_of l.template) l.steps.items ≡ map (effect_of_part (names_of l.keys) l.tab) (take (length l.steps.items) l.template);
  within : length l.steps.items ≤ length l.template;
}

abbrev pub decreases-parts : goal.decreases-parts
decreases-parts g l = length l.template - length l.steps.items
