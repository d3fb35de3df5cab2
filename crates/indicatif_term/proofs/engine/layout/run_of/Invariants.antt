use Rattle.std.proofs.Common.{◌≡◌, ◌+◌, drop}
use Rattle.indicatif_term.specs.Counts.{line_counts}
use Rattle.indicatif_term.specs.Inside.Owned.{run_length}
use Rattle.indicatif_term.proofs.engine.layout.run_of.Given as goal

abbrev pub invariant-loop-at : goal.invariant-loop-at
invariant-loop-at l = run_length l.bar (line_counts l.lines) ≡ l.at + run_length l.bar (line_counts (drop l.at l.lines))
