use Rattle.std.proofs.Common.{◌≤◌}
use Rattle.indicatif.specs.Inside.Courses.{GoesOn}
use Rattle.indicatif.proofs.parallel.visits.own_visits.Given as goal

abbrev pub invariant-loop : goal.invariant-loop
invariant-loop g l = GoesOn g.P.Moves.stands g.P.Moves.leads l.fn.course.done l.fn.course.bar l.course.done l.course.bar × (l.course.done ≤ l.fn.claims.items)
