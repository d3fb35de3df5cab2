use Rattle.std.proofs.Common.{◌≡◌, ◌≤◌, length, map}
use Rattle.indicatif_term.specs.Screen.{joined_at}
use Rattle.indicatif_term.specs.Inside.Rows.{cell_shown}
use Rattle.indicatif_term.proofs.cells.row.join_before.Given as goal

abbrev pub invariant-loop-left : goal.invariant-loop-left
invariant-loop-left l = record {
  within : l.left ≤ length l.cells;
  is : joined_at l.at l.joiner (map (cell_shown l.fn.joiners.items) l.fn.cells) ≡ joined_at l.left l.joiner (map (cell_shown l.joiners.items) l.cells);
  same : l.cells ≡ l.fn.cells;
  joiners : l.joiners.items ≡ l.fn.joiners.items;
}

abbrev pub decreases-loop-left : goal.decreases-loop-left
decreases-loop-left l = l.left
