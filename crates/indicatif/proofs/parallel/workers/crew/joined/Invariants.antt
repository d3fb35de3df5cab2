use Rattle.std.proofs.Common.{◌≡◌, IfOk, All}
use Rattle.std.specs.Vec.Iter.{into_iter_items}
use Rattle.indicatif.proofs.parallel.workers.crew.joined.Given as goal

abbrev pub invariant-loop-thread : goal.invariant-loop-thread
invariant-loop-thread g l =
    IfOk l.all (λ made. All (g.K.Work.gives l.work) made.items)
    × All (λ h. h.promise.0.value ≡ l.work) (into_iter_items l.thread-iterator)
