use Rattle.std.proofs.Common.{◌≤◌, ◌⊎◌, ◌-◌, length}
use Rattle.indicatif_term.specs.Inside.Rows.{BeginTheSame}
use Rattle.indicatif_term.proofs.cells.row.lengthen.Given as goal

abbrev pub invariant-loop-cells : goal.invariant-loop-cells
invariant-loop-cells l = record {
  same : BeginTheSame l.end l.cells.items l.fn.cells.items;
  within : (length l.cells.items ≤ l.end) ⊎ (length l.cells.items ≤ length l.fn.cells.items);
}

abbrev pub decreases-loop-cells : goal.decreases-loop-cells
decreases-loop-cells l = l.end - length l.cells.items
