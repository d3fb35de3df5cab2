use Rattle.std.proofs.Common.{◌≡◌, replicate}
use Rattle.indicatif_text.specs.Columns.{blank_row}
use Rattle.indicatif_term.proofs.cells.grid.Grid.new.Given as goal

abbrev pub invariant-loop-row : goal.invariant-loop-row
invariant-loop-row l = l.rows.items ≡ replicate l._row (blank_row l.columns)
