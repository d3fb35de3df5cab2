use Rattle.std.proofs.Common.{◌≡◌, ◌≤◌, length, drop, false}
use Rattle.std.specs.List.{list_any}
use Rattle.indicatif_term.specs.Pictures.{has_written}
use Rattle.indicatif_term.proofs.cells.grid.written_length.Given as goal

abbrev pub invariant-loop-written : goal.invariant-loop-written
invariant-loop-written l = record { within : l.written ≤ length l.rows; blank : list_any has_written (drop l.written l.rows) ≡ false }

abbrev pub decreases-loop-written : goal.decreases-loop-written
decreases-loop-written l = l.written
