use Rattle.std.proofs.Common.{◌≡◌, All}
use Rattle.indicatif.proofs.parallel.workers.crew.started.Given as goal

abbrev pub invariant-loop : goal.invariant-loop
invariant-loop g l = All (λ h. h.promise.0.value ≡ l.work) l.threads.items
