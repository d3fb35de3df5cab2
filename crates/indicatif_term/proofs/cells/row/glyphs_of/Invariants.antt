use Rattle.std.proofs.Common.{◌≡◌, take, map, flat_map}
use Rattle.indicatif_term.specs.Resizes.{glyph_at}
use Rattle.indicatif_term.specs.Inside.Rows.{cell_shown}
use Rattle.indicatif_term.proofs.cells.row.glyphs_of.Given as goal

abbrev pub invariant-loop-cell : goal.invariant-loop-cell
invariant-loop-cell l = l.glyphs.items ≡ flat_map glyph_at (map (cell_shown l.joiners) (take l.cell-index l.cells))
