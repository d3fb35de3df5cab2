use Rattle.std.proofs.Common.{◌≡◌, take}
use Rattle.std.specs.Prelude.{fold}
use Rattle.indicatif_term.specs.Inside.Resizing.{glyph_put}
use Rattle.indicatif_term.proofs.cells.grid.Grid.put_row.Given as goal

abbrev pub invariant-loop-glyph : goal.invariant-loop-glyph
invariant-loop-glyph l = l.self ≡ fold glyph_put l.initial.self (take l.glyph-index l.glyph-items)
