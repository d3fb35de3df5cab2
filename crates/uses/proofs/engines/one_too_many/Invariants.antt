use Rattle.std.proofs.Common.{◌≡◌}
use Rattle.uses.proofs.EngineLemmas.{asked}
use Rattle.uses.proofs.engines.one_too_many.Given as goal

abbrev pub invariant-loop : goal.invariant-loop
invariant-loop l = l.limiter ≡ asked l.counter
