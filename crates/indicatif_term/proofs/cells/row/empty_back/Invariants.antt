use Rattle.std.proofs.Common.{◌≡◌, ◌≤◌, length}
use Rattle.indicatif_term.specs.Inside.Rows.{emptied_back}
use Rattle.indicatif_term.proofs.cells.row.empty_back.Given as goal

abbrev pub invariant-loop-left : goal.invariant-loop-left
invariant-loop-left l = record { within : l.left ≤ length l.cells; is : emptied_back l.at l.fn.cells ≡ emptied_back l.left l.cells }

abbrev pub decreases-loop-left : goal.decreases-loop-left
decreases-loop-left l = l.left
