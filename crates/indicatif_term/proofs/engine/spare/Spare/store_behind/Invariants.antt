use Rattle.std.proofs.Common.{◌≡◌, length, take}
use Rattle.std.specs.Prelude.{vec_capacity}
use Rattle.indicatif_term.proofs.engine.spare.Spare.store_behind.Given as goal

abbrev pub invariant-loop-lines : goal.invariant-loop-lines
invariant-loop-lines l = record {
  lines_are : take l.count l.lines.items ≡ take l.count l.initial.lines.items;
  room_is : vec_capacity l.lines ≡ vec_capacity l.initial.lines;
}

abbrev pub decreases-loop-lines : goal.decreases-loop-lines
decreases-loop-lines l = length l.lines.items
