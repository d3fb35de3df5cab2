use Rattle.std.proofs.Common.{◌≤◌, length}
use Rattle.indicatif_term.proofs.engine.remembered.first_of_last.Given as goal

abbrev pub invariant-loop-at : goal.invariant-loop-at
invariant-loop-at l = l.at ≤ length l.lines

abbrev pub decreases-loop-at : goal.decreases-loop-at
decreases-loop-at l = l.at
