use Rattle.std.proofs.Common.{◌≤◌, length, take, All}
use Rattle.std.specs.Fn.{FnReturnsAt}
use Rattle.std.specs.List.{AllZip}
use Rattle.std.specs.Vec.Iter.{into_iter_items}
use Rattle.indicatif.specs.Inside.PartAnswers.{AnswersPart}
use Rattle.indicatif.proofs.parallel.part_answers.in_order.Given as goal

abbrev pub invariant-loop-piece : goal.invariant-loop-piece
invariant-loop-piece g l =
    (l.place ≤ length l.fn.items)
    × AllZip (FnReturnsAt g.F.Fn l.fn.f) (take l.place l.fn.items) l.made.items
    × All (AnswersPart (FnReturnsAt g.F.Fn l.fn.f) l.fn.items) (into_iter_items l.piece-iterator)
