-- A terminal that changes its size, and the lists that it shows: each row is wrapped again. Rows aren't joined.
use Rattle.std.specs.Prelude.{◌≡◌, ◌⊎◌, ℕ, ◌+◌, ◌-◌, ◌<◌, min, max, Bool, ◌&&◌, ◌==◌, nat_le, IsTrue, List, [], ◌∷◌, ◌++◌, map, filter, flat_map, length, take, drop, replicate, if◌then◌else◌}
use Rattle.std.specs.Int.{is_in_range}
use Rattle.std.specs.List.{list_all}
use Rattle.indicatif_text.specs.Columns.{Cell, Blank, Written, Continued, Glyph, glyph_width, pieces_of, row_of, blank_row}
use Rattle.indicatif_term.specs.Screen.{Screen, cursor_row}
use Rattle.indicatif_term.specs.Terminal.{Terminal}
use Rattle.indicatif_term.specs.Pictures.{is_blank, trimmed}
use Rattle.indicatif_term.specs.Calls.{Told, State, Bytes, Nothing, is_told, TermView}
use Rattle.indicatif_term.specs.Lists.{Lists, BarRows, live_height, lists_height, live_rows, settled}

-- ---- a row

-- the glyph that begins at a cell: a space at an empty one
abbrev pub glyph_at : Cell → List Glyph
glyph_at Blank = record { base = 0x20; joiners = [] } ∷ []
glyph_at (Written g) = g ∷ []
glyph_at Continued = []

-- the glyphs of a row, without the blanks at its end
abbrev pub glyphs_in : List Cell → List Glyph
glyphs_in row = flat_map glyph_at (trimmed row)

-- whether a glyph fits into a row of w columns
abbrev pub has_place : ℕ → Glyph → Bool
has_place w g = is_in_range 1 w (glyph_width g)

-- the rows that a row becomes at w columns: its glyphs in pieces of at most w columns, each as long as possible. A wider glyph is left out; a blank row stays one
unfoldable pub recut : ℕ → List Cell → List (List Cell)
recut w row = map (row_of w) (pieces_of w (filter (has_place w) (glyphs_in row)))

-- all rows at w columns
abbrev pub recut_all : ℕ → List (List Cell) → List (List Cell)
recut_all w rows = flat_map (recut w) rows

-- ---- a terminal

-- the rows up to the last one that isn't blank
abbrev pub used_rows : List (List Cell) → List (List Cell)
used_rows [] = []
used_rows (r ∷ rs) = if list_all (list_all is_blank) (r ∷ rs) then [] else r ∷ used_rows rs

-- the rows that last: those down to the cursor's, and below it those up to the last one that isn't blank
abbrev pub lasting_rows : Screen → List (List Cell)
lasting_rows s = take (s.row + 1) s.rows ++ used_rows (drop (s.row + 1) s.rows)

-- the row that the cursor goes to: the first that its row becomes, or the last if it waits at the row's end
abbrev pub row_then : ℕ → Screen → ℕ
row_then w s =
    let before = length (recut_all w (take s.row s.rows)) in
    if s.column == s.columns then before + length (recut w (cursor_row s)) - 1 else before

-- its column stays, but is at most w; a waiting cursor goes on waiting
abbrev pub column_then : ℕ → Screen → ℕ
column_then w s = if s.column == s.columns then w else min s.column w

-- the window is the last h of the new rows, or all of them with blank rows below; a cursor above it goes to its first row
abbrev pub recut_screen : ℕ → ℕ → Screen → Screen
recut_screen w h s =
    let rows = recut_all w (lasting_rows s) in
    record {
      columns = w;
      height = h;
      rows = rows ++ replicate (h - length rows) (blank_row w);
      row = max (row_then w s) (length rows - h);
      column = column_then w s;
    }

-- a screen that gets w columns and h rows; its own size changes nothing
unfoldable pub resized : ℕ → ℕ → Screen → Screen
resized w h s = if (s.columns == w) && (s.height == h) then s else recut_screen w h s

-- a terminal that gets w columns and h rows: what it has read of a character and of a sequence stays
abbrev pub resized_terminal : ℕ → ℕ → Terminal → Terminal
resized_terminal w h t = record t { screen = resized w h t.screen }

-- ---- the lists

-- a bar's rows at w columns
abbrev pub recut_bar : ℕ → BarRows → BarRows
recut_bar w s = record s { rows = recut_all w s.rows }

-- the three lists at w columns. Rows below the cursor's are dropped, so nothing further down was reached
abbrev pub recut_lists : ℕ → Lists → Lists
recut_lists w l =
    let cut : Lists = record l {
      above = recut_all w l.above;
      kept = recut_all w l.kept;
      live = record { blanks = l.live.blanks; segments = map (recut_bar w) l.live.segments };
    } in
    record cut { reach = lists_height cut + (if l.below then 1 else 0) }

-- segments without their first n rows
abbrev pub segments_after : ℕ → List BarRows → List BarRows
segments_after n [] = []
segments_after n (s ∷ ss) =
    if nat_le (length s.rows) n then segments_after (n - length s.rows) ss else record s { rows = drop n s.rows } ∷ ss

-- the first n live rows become kept ones
abbrev pub rows_passed : ℕ → ℕ → Lists → Lists
rows_passed w n l = record l {
  kept = l.kept ++ take n (live_rows w l.live);
  live = record { blanks = l.live.blanks - n; segments = segments_after (n - l.live.blanks) l.live.segments };
}

-- kept and live rows that have scrolled away on a terminal of w columns and h rows join those above; nothing more is known of the rows below
abbrev pub settled_whole : ℕ → ℕ → Lists → Lists
settled_whole w h l = record (settled h (rows_passed w ((l.reach - h) - (length l.above + length l.kept)) l)) { under = l.under }

-- the lists of a terminal of w columns and h rows that gets w' columns and h' rows
unfoldable pub resized_lists : ℕ → ℕ → ℕ → ℕ → Lists → Lists
resized_lists w h w' h' l = if (w == w') && (h == h') then l else settled_whole w' h' (recut_lists w' l)

-- when a size may take memory: the terminal itself takes some, or a kept or a live row stands, which is wrapped
abbrev pub SizeTakes : Bool → Lists → Type 0
SizeTakes own l = IsTrue own ⊎ (0 < length l.kept + live_height l.live)

-- ---- what contracts see of a terminal

-- whether it has w columns and h rows
abbrev pub has_size : ℕ → ℕ → TermView → Bool
has_size w h v = (v.columns == w) && (v.rows == h)

-- what can be read of a terminal after it gets w columns and h rows: the bytes that it got stay
abbrev pub told_resized : ℕ → ℕ → Told → Told
told_resized w h (State t) = State (resized_terminal w h t)
told_resized w h (Bytes bytes) = Bytes bytes
told_resized w h Nothing = Nothing

-- it got w columns and h rows, and nothing else changed
pub record Resized (w h : ℕ) (old new : TermView) : Type 0 where
  pub told_is : IsTrue (is_told old.told) → new.told ≡ told_resized w h old.told
  pub columns_are : new.columns ≡ w
  pub rows_are : new.rows ≡ h
  pub faults_are : new.faults ≡ old.faults
  pub kind_is : new.kind ≡ old.kind
