-- The three lists of rows: those above, which never change; those kept, of bars that are gone; and the live ones, of the last frame. Rows are lists of cells.
use Rattle.std.specs.Prelude.{ℕ, zero, suc, ◌+◌, ◌-◌, max, Bool, true, false, ◌&&◌, ◌==◌, nat_le, nat_lt, List, [], ◌∷◌, ◌++◌, map, length, replicate, take, drop, sum_by, fold, flat_map, if◌then◌else◌}
use Rattle.std.specs.List.{list_any}
use Rattle.indicatif_text.specs.Columns.{Cell, blank_row, rows_of}
use Rattle.indicatif_term.specs.declared.engine.counts.Keep.{Keep}
use Rattle.indicatif_term.specs.declared.engine.counts.Keep.TheVariants.{Absent, Passed, Behind}

-- the rows that one bar shows
pub record BarRows : Type 0 where
  pub bar : ℕ
  pub rows : List (List Cell)

-- blank rows, then the rows of the bars
pub record Live : Type 0 where
  pub blanks : ℕ
  pub segments : List BarRows

-- the three lists, and the state of the cursor that they depend on
pub record Lists : Type 0 where
  pub above : List (List Cell)
  pub kept : List (List Cell)
  pub live : Live
  -- how many rows the cursor ever reached, from the first of the lists
  pub reach : ℕ
  -- whether the cursor rests at the front of the row after the lists, instead of on their last row
  pub below : Bool
  -- whether the terminal has failed since the last draw that was made
  pub failed : Bool
  -- whether anything may stand in the rows that weren't reached, because it failed before all of its window was reached
  pub under : Bool

-- no live row
abbrev pub no_live : Live
no_live = record { blanks = 0; segments = [] }

-- nothing drawn: the cursor is at the front of the first row
abbrev pub opening_lists : Lists
opening_lists = record { above = []; kept = []; live = no_live; reach = 1; below = true; failed = false; under = false }

-- after a failure of the terminal: the rows are forgotten, and anything may stand below
abbrev pub forgotten_lists : Lists
forgotten_lists = record opening_lists { failed = true; under = true }

-- how many rows are live
abbrev pub live_height : Live → ℕ
live_height live = live.blanks + sum_by (λ s. length s.rows) live.segments

-- how many rows the lists have
abbrev pub lists_height : Lists → ℕ
lists_height l = length l.above + length l.kept + live_height l.live

-- the live rows on a terminal of w columns
abbrev pub live_rows : ℕ → Live → List (List Cell)
live_rows w live = replicate live.blanks (blank_row w) ++ flat_map (λ s. s.rows) live.segments

-- the rows of the lists on a terminal of w columns, from the top
abbrev pub all_rows : ℕ → Lists → List (List Cell)
all_rows w l = l.above ++ l.kept ++ live_rows w l.live

-- kept rows that have scrolled away on a terminal of h rows join those above; all below is known once h rows were reached
abbrev pub settled : ℕ → Lists → Lists
settled h l =
    let reach = max l.reach (lists_height l) in
    let gone = (reach - h) - length l.above in
    record {
      above = l.above ++ take gone l.kept;
      kept = drop gone l.kept;
      live = l.live;
      reach = reach;
      below = l.below;
      failed = l.failed;
      under = l.under && nat_lt reach (length l.above + h);
    }

-- at the end of a draw, a log or a clear the cursor rests below the lists if nothing is live and that row was reached
abbrev pub rested : Lists → Lists
rested l = record l { below = (live_height l.live == 0) && nat_lt (lists_height l) l.reach; failed = false }

-- ---- a frame: the stored lines of the members in order

-- a bar with its lines, each a list of characters
pub record BarLines : Type 0 where
  pub bar : ℕ
  pub lines : List (List ℕ)

-- each line by its bar and its rows
unfoldable pub lines_of : ℕ → List BarLines → List BarRows
lines_of w frame = flat_map (λ (s : BarLines). map (λ line. record { bar = s.bar; rows = rows_of w line }) s.lines) frame

-- as many from the front as take at most h rows together
unfoldable pub fitting : ℕ → List BarRows → List BarRows
fitting h [] = []
fitting h (s ∷ ss) = if nat_le (length s.rows) h then s ∷ fitting (h - length s.rows) ss else []

-- one more segment after these, or its rows added to the last one if that is of the same bar
abbrev pub onto_segments : List BarRows → BarRows → List BarRows
onto_segments [] s = s ∷ []
onto_segments (t ∷ []) s = if t.bar == s.bar then record t { rows = t.rows ++ s.rows } ∷ [] else t ∷ s ∷ []
onto_segments (t ∷ u ∷ ts) s = t ∷ onto_segments (u ∷ ts) s

-- neighbours of one bar as one segment
unfoldable pub grouped : List BarRows → List BarRows
grouped segments = fold onto_segments [] segments

-- the rows of a frame on a terminal of w columns and h rows, by bar
unfoldable pub shown_rows : ℕ → ℕ → List BarLines → List BarRows
shown_rows w h frame = grouped (fitting h (lines_of w frame))

-- how many rows segments have
abbrev pub segments_height : List BarRows → ℕ
segments_height segments = sum_by (λ s. length s.rows) segments

-- the blank rows of a bottom alignment: if bars show, as many as the erased rows exceed those written
abbrev pub blanks_for : Bool → ℕ → ℕ → ℕ → ℕ
blanks_for bottom taken text bars = if bottom && nat_lt 0 bars then taken - (text + bars) else 0

-- the live rows of a frame, if this many rows are erased and this many rows of text are written
abbrev pub live_of_frame : ℕ → ℕ → Bool → ℕ → ℕ → List BarLines → Live
live_of_frame w h bottom taken text frame =
    let segments = shown_rows w h frame in
    record { blanks = blanks_for bottom taken text (segments_height segments); segments = segments }

-- the blanks and the first n segments pass from live to kept; nothing does if n is 0
abbrev pub passed : ℕ → ℕ → Lists → Lists
passed w zero l = l
passed w (suc n) l = record l {
  kept = l.kept ++ live_rows w (record { blanks = l.live.blanks; segments = take (suc n) l.live.segments });
  live = record { blanks = 0; segments = drop (suc n) l.live.segments };
}

-- a draw of this frame, with the first `pass` members dropped
unfoldable pub drawn : ℕ → ℕ → Bool → ℕ → List BarLines → Lists → Lists
drawn w h bottom pass frame l =
    let live = live_of_frame w h bottom (live_height l.live) 0 frame in
    rested (settled h (passed w (length (shown_rows w h (take pass frame))) (record l { live = live })))

-- a log of these lines above the frame
unfoldable pub logged : ℕ → ℕ → Bool → List (List ℕ) → List BarLines → Lists → Lists
logged w h bottom text frame l =
    let rows = flat_map (rows_of w) text in
    let taken = length l.kept + live_height l.live in
    rested (settled h (record l {
      above = l.above ++ rows;
      kept = [];
      live = live_of_frame w h bottom taken (length rows) frame;
    }))

-- a clear
unfoldable pub cleared : Lists → Lists
cleared l = rested (record l { kept = []; live = no_live })

-- ---- a dropped bar

-- whether a bar has a row among these
abbrev pub has_rows : ℕ → List BarRows → Bool
has_rows bar segments = list_any (λ s. s.bar == bar) segments

-- whether the first of these is a bar's
abbrev pub is_first : ℕ → List BarRows → Bool
is_first bar [] = false
is_first bar (s ∷ ss) = s.bar == bar

-- whether the rows of a dropped bar are kept
unfoldable pub fate : ℕ → Lists → Keep
fate bar l =
    if is_first bar l.live.segments then Passed
    else if has_rows bar l.live.segments then Behind
    else Absent

-- the lists after it: its rows pass to kept if live's first segment is its own
unfoldable pub kept_of : ℕ → ℕ → Lists → Lists
kept_of w bar l = if is_first bar l.live.segments then passed w 1 l else l
