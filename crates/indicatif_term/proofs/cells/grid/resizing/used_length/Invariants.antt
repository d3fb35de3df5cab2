use Rattle.std.proofs.Common.{◌≡◌, ◌≤◌, length, drop, true}
use Rattle.std.specs.List.{list_all}
use Rattle.indicatif_term.specs.Pictures.{is_blank}
use Rattle.indicatif_term.proofs.cells.grid.resizing.used_length.Given as goal

abbrev pub invariant-loop-used : goal.invariant-loop-used
invariant-loop-used l = record { within : l.used ≤ length l.rows; blank : list_all (list_all is_blank) (drop l.used l.rows) ≡ true }

abbrev pub decreases-loop-used : goal.decreases-loop-used
decreases-loop-used l = l.used
