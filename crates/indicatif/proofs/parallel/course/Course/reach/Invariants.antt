use Rattle.std.proofs.Common.{◌≡◌, ◌≤◌, ◌-◌}
use Rattle.indicatif.specs.Inside.Courses.{GoesOn}
use Rattle.indicatif.proofs.parallel.course.Course.reach.Given as goal

abbrev pub invariant-loop-self : goal.invariant-loop-self
invariant-loop-self g l =
    (l.fn.self.done ≤ l.self.done)
    × (l.fn.self.done ≤ l.item → l.self.done ≤ l.item)
    × (l.item ≤ l.fn.self.done → l.self.done ≡ l.fn.self.done)
    × GoesOn g.P.Moves.stands g.P.Moves.leads l.fn.self.done l.fn.self.bar l.self.done l.self.bar

abbrev pub decreases-loop-self : goal.decreases-loop-self
decreases-loop-self g l = l.item - l.self.done
