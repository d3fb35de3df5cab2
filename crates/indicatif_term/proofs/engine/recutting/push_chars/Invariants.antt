use Rattle.std.proofs.Common.{◌≡◌, ◌++◌}
use Rattle.indicatif_term.proofs.engine.recutting.push_chars.Given as goal

abbrev pub invariant-loop-c : goal.invariant-loop-c
invariant-loop-c l = l.seen.items ≡ l.initial.seen.items ++ l.yielded
