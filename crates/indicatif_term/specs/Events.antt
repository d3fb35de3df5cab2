-- What reaches a terminal over time: bytes, and sizes between them; and which of its rows last.
use Rattle.std.specs.Prelude.{◌≡◌, ℕ, ◌+◌, min, ◌&&◌, ◌==◌, List, [], ◌∷◌, length, take, if◌then◌else◌}
use Rattle.indicatif_text.specs.Columns.{Cell}
use Rattle.indicatif_term.specs.Screen.{Screen}
use Rattle.indicatif_term.specs.Terminal.{Terminal, after}
use Rattle.indicatif_term.specs.Calls.{Told, led_on}
use Rattle.indicatif_term.specs.Shows.{RowsStay}
use Rattle.indicatif_term.specs.Resizes.{recut_all, resized_terminal, told_resized}

-- bytes, or a size
pub data Event : Type 0 where
  Given : (bytes : List ℕ) → Event
  Sized : (columns rows : ℕ) → Event

-- the terminal after these events
abbrev pub terminal_after : Terminal → List Event → Terminal
terminal_after t [] = t
terminal_after t (Given bytes ∷ events) = terminal_after (after t bytes) events
terminal_after t (Sized w h ∷ events) = terminal_after (resized_terminal w h t) events

-- what can be read of it after these events
abbrev pub told_after : Told → List Event → Told
told_after told [] = told
told_after told (Given bytes ∷ events) = told_after (led_on told bytes) events
told_after told (Sized w h ∷ events) = told_after (told_resized w h told) events

-- ---- rows that last

-- how many of the first n rows stand above whatever is written next: those above the cursor's, and the cursor's own if it waits at its end
abbrev pub rows_that_stand : ℕ → Screen → ℕ
rows_that_stand n s = min n (if s.column == s.columns then s.row + 1 else s.row)

-- the first n rows of a screen after it gets w columns and h rows: those that stand above are wrapped; its own size changes nothing
abbrev pub rows_then : ℕ → ℕ → ℕ → Screen → List (List Cell)
rows_then w h n s = if (s.columns == w) && (s.height == h) then take n s.rows else recut_all w (take (rows_that_stand n s) s.rows)

-- the first n rows last during these events: after each byte they are unchanged, and a size wraps each by itself
abbrev pub RowsLastThrough : ℕ → Terminal → List Event → Type 0
RowsLastThrough n t [] = Unit {0}
RowsLastThrough n t (Given bytes ∷ events) = RowsStay n t bytes × RowsLastThrough n (after t bytes) events
RowsLastThrough n t (Sized w h ∷ events) =
    let rows = rows_then w h n t.screen in
    (take (length rows) (resized_terminal w h t).screen.rows ≡ rows) × RowsLastThrough (length rows) (resized_terminal w h t) events
