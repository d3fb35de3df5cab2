-- How a screen with nothing below the cursor's row is written down, and which texts can be put on it.
use Rattle.std.specs.Prelude.{◌≡◌, ℕ, ◌+◌, ◌-◌, ◌<◌, ◌≤◌, max, Bool, true, false, is_some, IsTrue, List, ◌∷◌, ◌++◌, map, length, replicate, take, Some}
use Rattle.std.specs.List.{All}
use Rattle.std.specs.Str.{all_scalars}
use Rattle.unicode_width.specs.Width.{char_width}
use Rattle.indicatif_text.specs.Columns.{Cell, Glyph, width_of, glyph_width, visible, blank_row}
use Rattle.indicatif_term.specs.Screen.{Screen, Op, Put}
use Rattle.indicatif_term.specs.Terminal.{Terminal}
use Rattle.indicatif_term.specs.Shows.{IsOpening, resting}

-- the rows above the cursor's row, that row, and n blank rows below it
abbrev pub screen_at : ℕ → ℕ → List (List Cell) → List Cell → ℕ → ℕ → Screen
screen_at w h above here n column = record {
  columns = w;
  height = h;
  rows = above ++ here ∷ replicate n (blank_row w);
  row = length above;
  column = column;
}

-- the rows down to the cursor's row, and n blank rows below it
abbrev pub screen_after : ℕ → ℕ → List (List Cell) → ℕ → ℕ → Screen
screen_after w h rows n column = record {
  columns = w;
  height = h;
  rows = rows ++ replicate n (blank_row w);
  row = length rows - 1;
  column = column;
}

-- the cursor at the front of a blank row, and n blank rows below it
abbrev pub resting_below : ℕ → ℕ → List (List Cell) → ℕ → Terminal
resting_below w h above n = resting (screen_at w h above (blank_row w) n 0)

-- what writes a glyph
abbrev pub glyph_ops : Glyph → List Op
glyph_ops g = Put g.base ∷ map (λ c. Put c) g.joiners

-- a glyph of at most w columns
pub record IsSized (w : ℕ) (g : Glyph) : Type 0 where
  pub columns : 0 < glyph_width g
  pub fits : glyph_width g ≤ w
  pub joiners : All (λ c. char_width false c ≡ Some 0) g.joiners

-- a character that a terminal of w columns can show
pub record IsShowable (w c : ℕ) : Type 0 where
  pub shown_rows : is_some (char_width false c) ≡ true
  pub fits : width_of c ≤ w

-- characters of which each that shows fits into w columns
pub record IsText (w : ℕ) (line : List ℕ) : Type 0 where
  pub scalars : all_scalars line ≡ true
  pub printable : All (IsShowable w) (visible line)

-- the cursor is below the first n rows
pub record IsBelow (n : ℕ) (s : Screen) : Type 0 where
  pub below : n ≤ s.row
  pub in_rows : s.row < length s.rows
  pub window : 0 < s.height

-- after an opening: the rows before its cursor's, these rows, and blank rows; the cursor is on the row of that number,
-- at its front where that is said; `reach` rows were reached
pub record Stands (w h : ℕ) (opening : Screen) (rows : List (List Cell)) (row reach : ℕ) (front : Bool) (now : Terminal) : Type 0 where
  pub opens : IsOpening w h opening
  pub below : ℕ
  pub column : ℕ
  pub is : now ≡ resting (record {
    columns = w;
    height = h;
    rows = take opening.row opening.rows ++ rows ++ replicate below (blank_row w);
    row = opening.row + row;
    column = column;
  })
  pub in_rows : row < length rows + below
  pub at_front : IsTrue front → column ≡ 0
  -- how far the window has scrolled
  pub scrolled : opening.row + length rows + below ≡ max (length opening.rows) (opening.row + reach)
