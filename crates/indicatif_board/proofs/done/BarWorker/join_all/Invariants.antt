use Rattle.std.proofs.Common.{◌≡◌, ℕ, ◌+◌, ◌≤◌, All}
use Rattle.std.specs.Vec.Iter.{into_iter_items}
use Rattle.indicatif_board.specs.Done.{shares_of, added_by}
use Rattle.indicatif_board.proofs.done.BarWorker.join_all.Given as goal

abbrev pub invariant-loop-worker : goal.invariant-loop-worker
invariant-loop-worker l =
    (l.all.adds_to ≡ l.done)
    × All (λ w. w.adds_to ≡ l.done) (into_iter_items l.worker-iterator)
    × (l.all.account.parts + shares_of (into_iter_items l.worker-iterator) ≡ shares_of l.fn.workers.items)
    × (l.all.account.added + added_by (into_iter_items l.worker-iterator) ≡ added_by l.fn.workers.items)
    × ((most : ℕ) → All (λ w. w.account.seen ≤ most) (into_iter_items l.worker-iterator) → l.all.account.seen ≤ most → All (λ w. w.account.seen ≤ most) l.fn.workers.items)
