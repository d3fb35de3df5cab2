-- Rows that are put on a screen, one after another.
use Rattle.std.specs.Prelude.{◌≡◌, ℕ, ◌+◌, ◌-◌, List, ◌++◌, length, take, replicate, fold, if◌then◌else◌}
use Rattle.indicatif_text.specs.Columns.{Cell, Glyph, blank_row}
use Rattle.indicatif_term.specs.Screen.{Screen, Put, performed, put_joiner, line_feed, cursor_row}
use Rattle.indicatif_term.specs.Resizes.{has_place, glyphs_in, recut, recut_all, lasting_rows}
use Rattle.indicatif_term.specs.declared.cells.grid.resizing.CursorRows.{CursorRows}

-- joiners, joined to the glyph before the cursor
abbrev pub all_joined : Screen → List ℕ → Screen
all_joined s joiners = fold (λ s c. put_joiner c s) s joiners

-- a glyph, if it fits into a row
abbrev pub glyph_put : Screen → Glyph → Screen
glyph_put s g = if has_place s.columns g then all_joined (performed (Put g.base) s) g.joiners else s

-- the glyphs of a row
abbrev pub row_put : Screen → List Cell → Screen
row_put s row = fold glyph_put s (glyphs_in row)

-- the front of the next row
abbrev pub row_after : Screen → Screen
row_after s = line_feed (record s { column = 0 })

-- rows, the cursor at the front of the next one after each
abbrev pub rows_ended : Screen → List (List Cell) → Screen
rows_ended s rows = fold (λ s row. row_after (row_put s row)) s rows

-- rows, each begun at the front of the next one
abbrev pub rows_begun : Screen → List (List Cell) → Screen
rows_begun s rows = fold (λ s row. row_put (row_after s) row) s rows

-- the rows of an old screen that were put on a new one, and those that the cursor's row becomes
pub record LastingPut (old new now : Screen) (cursor : CursorRows) : Type 0 where
  pub columns_stay : now.columns ≡ new.columns
  pub height_stays : now.height ≡ new.height
  pub rows_are : let rows = recut_all new.columns (lasting_rows old) in now.rows ≡ rows ++ replicate (new.height - length rows) (blank_row new.columns)
  pub first_is : cursor.first ≡ length (recut_all new.columns (take old.row old.rows))
  pub last_is : cursor.last + 1 ≡ cursor.first + length (recut new.columns (cursor_row old))
