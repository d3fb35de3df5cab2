use Rattle.std.proofs.Common.{◌≡◌, ◌-◌, length}
use Rattle.indicatif_term.specs.Inside.Rows.{emptied_on}
use Rattle.indicatif_term.proofs.cells.row.empty_on.Given as goal

abbrev pub invariant-loop-column : goal.invariant-loop-column
invariant-loop-column l = emptied_on l.at l.fn.cells ≡ emptied_on l.column l.cells

abbrev pub decreases-loop-column : goal.decreases-loop-column
decreases-loop-column l = length l.initial.cells - l.column
