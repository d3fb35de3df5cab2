-- A terminal of cells. A cursor at the end of a full row waits: its column is the one after the last.
use Rattle.std.specs.Prelude.{◌≡◌, ℕ, ◌+◌, ◌-◌, ◌<◌, ◌≤◌, min, max, Bool, true, false, ◌==◌, nat_le, nat_lt, List, [], ◌∷◌, ◌++◌, reverse, length, take, drop, replicate, slice_set, slice_index_or, Option, Some, None, if◌then◌else◌}
use Rattle.unicode_width.specs.Width.{char_width}
use Rattle.indicatif_text.specs.Columns.{Cell, Blank, Written, Continued, Glyph, glyph_cells, blank_row}

-- rows of cells and a cursor
pub record Screen : Type 0 where
  pub columns : ℕ
  pub height : ℕ
  -- the rows that scrolled away, then those of the window, which are the last `height` rows
  pub rows : List (List Cell)
  -- the cursor's row, counted from the first of the rows
  pub row : ℕ
  pub column : ℕ

-- the first row of the window
abbrev pub top : Screen → ℕ
top s = length s.rows - s.height

-- the cursor is in the window, and each row has its cells
pub record IsWhole (s : Screen) : Type 0 where
  pub some_rows : 0 < s.height
  pub some_columns : 0 < s.columns
  pub enough_rows : s.height ≤ length s.rows
  pub in_rows : s.row < length s.rows
  pub in_window : top s ≤ s.row
  pub in_columns : s.column ≤ s.columns
  pub full_rows : (k : ℕ) → k < length s.rows → length (slice_index_or s.rows k []) ≡ s.columns

-- the row that the cursor is on
abbrev pub cursor_row : Screen → List Cell
cursor_row s = slice_index_or s.rows s.row []

-- blank rows, the cursor at the front of the first
abbrev pub blank_screen : ℕ → ℕ → Screen
blank_screen rows columns = record { columns = columns; height = rows; rows = replicate rows (blank_row columns); row = 0; column = 0 }

-- ---- writing into a row

-- whether a cell continues a wide glyph
abbrev pub is_continued : Cell → Bool
is_continued Continued = true
is_continued _ = false

-- the continued cells at the front, emptied
abbrev pub emptied_front : List Cell → List Cell
emptied_front [] = []
emptied_front (Continued ∷ cs) = Blank ∷ emptied_front cs
emptied_front (c ∷ cs) = c ∷ cs

-- the continued cells at the front and the glyph after them, emptied
abbrev pub emptied_glyph : List Cell → List Cell
emptied_glyph [] = []
emptied_glyph (Continued ∷ cs) = Blank ∷ emptied_glyph cs
emptied_glyph (c ∷ cs) = Blank ∷ cs

-- the cells before column n, with a wide glyph that goes on at column n emptied
abbrev pub cut_before : ℕ → List Cell → List Cell
cut_before n row =
    if is_continued (slice_index_or row n Blank) then reverse (emptied_glyph (reverse (take n row))) else take n row

-- the row with these cells at column n; a wide glyph of which a cell is written over is emptied
abbrev pub written_at : ℕ → List Cell → List Cell → List Cell
written_at n cells row = cut_before n row ++ cells ++ emptied_front (drop (n + length cells) row)

-- ---- joining a zero-width character, a joiner, to the glyph of the cell before the cursor

-- the glyph with one more zero-width character
abbrev pub with_joiner : ℕ → Glyph → Glyph
with_joiner c g = record g { joiners = g.joiners ++ c ∷ [] }

-- the zero-width character joined to the glyph at the end of the cells, read from their end, if they end with one
abbrev pub joined_back : ℕ → List Cell → List Cell
joined_back c (Continued ∷ cs) = Continued ∷ joined_back c cs
joined_back c (Written g ∷ cs) = Written (with_joiner c g) ∷ cs
joined_back c cells = cells

-- the row with the zero-width character joined to the glyph of the cell before column n
abbrev pub joined_at : ℕ → ℕ → List Cell → List Cell
joined_at n c row = reverse (joined_back c (reverse (take n row))) ++ drop n row

-- ---- the operations of a terminal

-- an operation of a terminal
pub data Op : Type 0 where
  Put : (c : ℕ) → Op
  Return : Op
  LineFeed : Op
  Up : (n : ℕ) → Op
  Down : (n : ℕ) → Op
  Right : (n : ℕ) → Op
  Left : (n : ℕ) → Op
  EmptyRow : Op

-- the screen with this row in place of the cursor's
abbrev pub with_row : Screen → List Cell → Screen
with_row s r = record s { rows = slice_set s.rows s.row r }

-- one row down at the same column; after the last row comes a blank one, and the window scrolls
abbrev pub line_feed : Screen → Screen
line_feed s = record s {
  rows = if nat_lt (s.row + 1) (length s.rows) then s.rows else s.rows ++ blank_row s.columns ∷ [];
  row = s.row + 1;
}

-- a glyph of w columns that fits into the row
abbrev pub put_here : Glyph → ℕ → Screen → Screen
put_here g w s = record (with_row s (written_at s.column (glyph_cells g) (cursor_row s))) { column = s.column + w }

-- a character of w columns
abbrev pub put_wide : ℕ → ℕ → Screen → Screen
put_wide c w s =
    if nat_lt s.columns w then s
    else put_here (record { base = c; joiners = [] }) w
    (if nat_le (s.column + w) s.columns then s else line_feed (record s { column = 0 }))

-- a zero-width character
abbrev pub put_joiner : ℕ → Screen → Screen
put_joiner c s = with_row s (joined_at s.column c (cursor_row s))

-- a character by its columns; one without a width is ignored
abbrev pub put_sized : ℕ → Option ℕ → Screen → Screen
put_sized c None s = s
put_sized c (Some w) s = if w == 0 then put_joiner c s else put_wide c w s

-- the screen after an operation
abbrev pub performed : Op → Screen → Screen
performed (Put c) s = put_sized c (char_width false c) s
performed Return s = record s { column = 0 }
performed LineFeed s = line_feed s
performed (Up n) s = record s { row = max (s.row - n) (top s) }
performed (Down n) s = record s { row = min (s.row + n) (length s.rows - 1) }
performed (Right n) s = if s.column == s.columns then s else record s { column = min (s.column + n) (s.columns - 1) }
performed (Left n) s = record s { column = s.column - n }
performed EmptyRow s = with_row s (blank_row s.columns)
