use Rattle.std.proofs.Common.{◌≤◌, All}
use Rattle.std.specs.Fn.{FnReturnsAt}
use Rattle.indicatif.specs.Inside.Courses.{GoesOn}
use Rattle.indicatif.specs.Inside.PartAnswers.{AnswersPart}
use Rattle.indicatif.proofs.parallel.answers.pieces_in_order.Given as goal

abbrev pub invariant-loop : goal.invariant-loop
invariant-loop g l =
    All (AnswersPart (FnReturnsAt g.F.Fn l.fn.f) l.fn.items) l.pieces.items
    × GoesOn g.P.Moves.stands g.P.Moves.leads l.fn.course.done l.fn.course.bar l.course.done l.course.bar
    × (l.course.done ≤ l.fn.claims.items)
