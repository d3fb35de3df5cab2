-- Text as a terminal sees it: colour sequences, visible characters, columns and rows. Texts are lists of characters.
use Rattle.std.specs.Prelude.{ℕ, zero, suc, ◌+◌, ◌-◌, Bool, false, ◌&&◌, ◌||◌, ◌==◌, nat_le, nat_lt, List, [], ◌∷◌, ◌++◌, map, replicate, take_while, sum_by, flat_map, Option, Some, None, if◌then◌else◌, unwrap_or, is_some, option_map}
use Rattle.std.specs.List.{list_any, list_all}
use Rattle.std.specs.Int.{is_in_range}
use Rattle.unicode_width.specs.Width.{char_width}

-- ---- colour sequences: ESC [, digits and semicolons, m

-- a digit or a semicolon
abbrev pub is_parameter : ℕ → Bool
is_parameter c = is_in_range 0x30 0x39 c || (c == 0x3B)

-- the length of the parameters at the front, with the `m` that ends them
abbrev pub parameters_length : List ℕ → Option ℕ
parameters_length [] = None
parameters_length (c ∷ cs) =
    if c == 0x6D then Some 1 else if is_parameter c then option_map (λ n. n + 1) (parameters_length cs) else None

-- the length of the colour sequence at the front, if there is one
abbrev pub colour_length : List ℕ → Option ℕ
colour_length [] = None
colour_length (c ∷ []) = None
colour_length (c ∷ d ∷ cs) = if (c == 0x1B) && (d == 0x5B) then option_map (λ n. n + 2) (parameters_length cs) else None

-- the characters outside colour sequences, after the first n
abbrev pub visible_from : ℕ → List ℕ → List ℕ
visible_from n [] = []
visible_from (suc n) (c ∷ cs) = visible_from n cs
visible_from zero (c ∷ cs) =
    if is_some (colour_length (c ∷ cs)) then visible_from (unwrap_or (colour_length (c ∷ cs)) 1 - 1) cs else c ∷ visible_from 0 cs

-- the characters outside colour sequences
unfoldable pub visible : List ℕ → List ℕ
visible = visible_from 0

-- ---- columns

-- the columns of a character; 0 for one without a width
abbrev pub width_of : ℕ → ℕ
width_of c = unwrap_or (char_width false c) 0

-- the columns of a text: those of its visible characters
abbrev pub columns_of : List ℕ → ℕ
columns_of text = sum_by width_of (visible text)

-- ---- rows

-- a character with columns, and its joiners: the zero-width characters that follow it, such as combining marks
pub record Glyph : Type 0 where
  pub base : ℕ
  pub joiners : List ℕ

-- the columns of a glyph: those of its first character
abbrev pub glyph_width : Glyph → ℕ
glyph_width g = width_of g.base

-- visible characters as glyphs; zero-width ones at the front are left out
abbrev pub glyphs_of : List ℕ → List Glyph
glyphs_of [] = []
glyphs_of (c ∷ cs) =
    if width_of c == 0 then glyphs_of cs
    else record { base = c; joiners = take_while (λ d. width_of d == 0) cs } ∷ glyphs_of cs

-- a cell of a row
pub data Cell : Type 0 where
  -- never written, or emptied
  Blank : Cell
  -- the first cell of a glyph
  Written : (glyph : Glyph) → Cell
  -- a further cell of the wide glyph on its left
  Continued : Cell

-- a glyph as cells: a first one, and a continued one for each further column
abbrev pub glyph_cells : Glyph → List Cell
glyph_cells g = Written g ∷ replicate (glyph_width g - 1) Continued

-- the columns of glyphs in a row
abbrev pub columns_in : List Glyph → ℕ
columns_in gs = sum_by glyph_width gs

-- pieces of at most w columns, each as long as possible; the first one begins with `piece`
abbrev pub pieces_after : ℕ → List Glyph → List Glyph → List (List Glyph)
pieces_after w piece [] = piece ∷ []
pieces_after w piece (g ∷ gs) =
    if nat_le (columns_in piece + glyph_width g) w then pieces_after w (piece ++ g ∷ []) gs
    else piece ∷ pieces_after w (g ∷ []) gs

-- glyphs cut into pieces of at most w columns, each as long as possible
abbrev pub pieces_of : ℕ → List Glyph → List (List Glyph)
pieces_of w gs = pieces_after w [] gs

-- a row of w empty cells
abbrev pub blank_row : ℕ → List Cell
blank_row w = replicate w Blank

-- a piece filled with blanks
abbrev pub row_of : ℕ → List Glyph → List Cell
row_of w gs = flat_map glyph_cells gs ++ replicate (w - columns_in gs) Blank

-- the rows that a line takes on a terminal of w columns
unfoldable pub rows_of : ℕ → List ℕ → List (List Cell)
rows_of w line = map (row_of w) (pieces_of w (glyphs_of (visible line)))

-- the columns of the last of these pieces
abbrev pub columns_of_last : List (List Glyph) → ℕ
columns_of_last [] = 0
columns_of_last (p ∷ []) = columns_in p
columns_of_last (p ∷ q ∷ ps) = columns_of_last (q ∷ ps)

-- how many columns of its last row a line takes
unfoldable pub last_columns : ℕ → List ℕ → ℕ
last_columns w line = columns_of_last (pieces_of w (glyphs_of (visible line)))

-- whether a visible character is wider than w columns
unfoldable pub has_wide : ℕ → List ℕ → Bool
has_wide w line = list_any (λ c. nat_lt w (width_of c)) (visible line)

-- whether each visible character has a width: no control character has one
unfoldable pub is_plain : List ℕ → Bool
is_plain line = list_all (λ c. is_some (char_width false c)) (visible line)
