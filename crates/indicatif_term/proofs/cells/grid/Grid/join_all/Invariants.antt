use Rattle.std.proofs.Common.{◌≡◌, ◌≤◌, length, drop, reverse}
use Rattle.indicatif_term.specs.Inside.Resizing.{all_joined}
use Rattle.indicatif_term.proofs.cells.grid.Grid.join_all.Given as goal

abbrev pub invariant-loop-left : goal.invariant-loop-left
invariant-loop-left l = record {
  within : l.left ≤ length l.reversed;
  joined : l.self ≡ all_joined l.initial.self (reverse (drop l.left l.reversed));
}

abbrev pub decreases-loop-left : goal.decreases-loop-left
decreases-loop-left l = l.left
