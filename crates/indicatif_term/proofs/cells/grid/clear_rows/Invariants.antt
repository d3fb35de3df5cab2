use Rattle.std.proofs.Common.{◌≡◌, ℕ, ◌<◌, [], length, take, replicate, get_or}
use Rattle.indicatif_text.specs.Columns.{blank_row}
use Rattle.indicatif_term.proofs.cells.grid.clear_rows.Given as goal

abbrev pub invariant-loop-row : goal.invariant-loop-row
invariant-loop-row l = record {
  done : take l.row-index l.rows ≡ replicate l.row-index (blank_row l.columns);
  full : (k : ℕ) → k < length l.rows → length (get_or l.rows k []) ≡ l.columns;
}
