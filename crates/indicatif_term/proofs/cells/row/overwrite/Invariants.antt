use Rattle.std.proofs.Common.{◌≡◌, ◌-◌}
use Rattle.indicatif_term.specs.Inside.Rows.{overwritten, character_cells}
use Rattle.indicatif_term.proofs.cells.row.overwrite.Given as goal

abbrev pub invariant-loop-column : goal.invariant-loop-column
invariant-loop-column l = l.cells ≡ overwritten l.at (character_cells l.fn.c (l.column - l.at)) l.fn.cells
