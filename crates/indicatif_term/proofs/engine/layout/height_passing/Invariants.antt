use Rattle.std.proofs.Common.{◌≡◌, ◌-◌, ◌^◌, min, take}
use Rattle.indicatif_term.specs.Inside.Changing.{placed_height}
use Rattle.indicatif_term.specs.Standing.{placed}
use Rattle.indicatif_term.specs.Inside.Layouts.{own_lines}
use Rattle.indicatif_term.proofs.engine.layout.height_passing.Given as goal

abbrev pub invariant-loop-at : goal.invariant-loop-at
invariant-loop-at l = l.rows ≡ min (placed_height (placed (take l.at (own_lines l.standing l.laid)))) (2 ^ 64 - 1)
