use Rattle.std.proofs.Common.{◌≡◌, ◌+◌, ◌≤◌, drop}
use Rattle.indicatif_term.specs.Counts.{line_counts}
use Rattle.indicatif_term.specs.Inside.Owned.{run_length}
use Rattle.indicatif_term.specs.Inside.Layouts.{own_lines}
use Rattle.indicatif_term.proofs.engine.layout.through_run.Given as goal

abbrev pub invariant-loop-at : goal.invariant-loop-at
invariant-loop-at l = (l.count ≤ l.at) ×
    (l.count + run_length l.bar (line_counts (drop l.count (own_lines l.standing l.laid))) ≡ l.at + run_length l.bar (line_counts (drop l.at (own_lines l.standing l.laid))))
