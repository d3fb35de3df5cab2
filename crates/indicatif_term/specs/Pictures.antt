-- What a screen shows, as text. An empty cell and a written space are the same blank.
use Rattle.std.specs.Prelude.{ℕ, Bool, true, false, ◌&&◌, ◌==◌, List, [], ◌∷◌, map, drop, flat_map, encode_utf8_all, if◌then◌else◌}
use Rattle.std.specs.List.{list_any, list_all, join_with_byte}
use Rattle.indicatif_text.specs.Columns.{Cell, Blank, Written, Continued}
use Rattle.indicatif_term.specs.Screen.{Screen, top}

-- the characters of a cell: a space for an empty cell
abbrev pub cell_text : Cell → List ℕ
cell_text Blank = 0x20 ∷ []
cell_text (Written g) = g.base ∷ g.joiners
cell_text Continued = []

-- whether a list is empty
abbrev pub is_empty : List ℕ → Bool
is_empty [] = true
is_empty (c ∷ cs) = false

-- an empty cell, or a space without joiners
abbrev pub is_blank : Cell → Bool
is_blank Blank = true
is_blank (Written g) = (g.base == 0x20) && is_empty g.joiners
is_blank Continued = false

-- the cells up to the last one that is no blank
abbrev pub trimmed : List Cell → List Cell
trimmed [] = []
trimmed (c ∷ cs) = if list_all is_blank (c ∷ cs) then [] else c ∷ trimmed cs

-- a row's text in UTF-8, without the blanks at its end
abbrev pub row_text : List Cell → List ℕ
row_text row = encode_utf8_all (flat_map cell_text (trimmed row))

-- the texts of the rows that scrolled away, then those of the window's
abbrev pub picture_text : Screen → List (List ℕ)
picture_text s = map row_text s.rows

-- a cell that was written, and not emptied since
abbrev pub is_written : Cell → Bool
is_written Blank = false
is_written (Written g) = true
is_written Continued = true

-- whether some cell of a row was written
abbrev pub has_written : List Cell → Bool
has_written row = list_any is_written row

-- whether a cell of the window was written
abbrev pub has_contents : Screen → Bool
has_contents s = list_any has_written (drop (top s) s.rows)

-- the rows up to the last one with a written cell
abbrev pub written_rows : List (List Cell) → List (List Cell)
written_rows [] = []
written_rows (r ∷ rs) = if list_any has_written (r ∷ rs) then r ∷ written_rows rs else []

-- the texts of the window's rows up to the last one with a written cell, a line feed between each two
abbrev pub contents_text : Screen → List ℕ
contents_text s = join_with_byte 0x0A (map row_text (written_rows (drop (top s) s.rows)))
