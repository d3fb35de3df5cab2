use Rattle.std.proofs.Common.{◌≡◌, ◌+◌}
use Rattle.code_tests.proofs.done.a_thousand_times.Given as goal

abbrev pub invariant-loop : goal.invariant-loop
invariant-loop l =
    (l.worker.adds_to ≡ l.done)
    × (l.worker.account.parts ≡ l.fn.worker.account.parts)
    × (l.worker.account.added ≡ l.fn.worker.account.added + l.counter)
