use Rattle.std.proofs.Common.{◌≡◌, ◌≤◌, take, length, vec_capacity}
use Rattle.std.specs.List.{AllZip}
use Rattle.std.specs.Fn.{FnReturnsAt}
use Rattle.indicatif.proofs.parallel.part_answers.answers_of.Given as goal

abbrev pub invariant-loop-item : goal.invariant-loop-item
invariant-loop-item g l =
    (length l.fn.items ≤ vec_capacity l.made)
    × (length l.made.items ≡ l.item-index)
    × AllZip (FnReturnsAt g.F.Fn l.fn.f) (take l.item-index l.fn.items) l.made.items
