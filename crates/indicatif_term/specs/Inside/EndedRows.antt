-- What the steps of a call write if the program ends rows.
use Rattle.std.specs.Prelude.{◌≡◌, ℕ, ◌+◌, ◌-◌, ◌^◌, ◌<◌, ◌≤◌, ◌==◌, nat_lt, min, Bool, true, false, IsTrue, IsFalse, List, [], ◌∷◌, ◌++◌, codes, map, take, None, is_some, Result, IsOk, if◌then◌else◌}
use Rattle.std.specs.List.{AllByRecursion}
use Rattle.unicode_width.specs.Width.{char_width}
use Rattle.std.specs.declared.io.Error.{Error}
use Rattle.indicatif_text.specs.Columns.{blank_row}
use Rattle.indicatif_term.specs.Screen.{Screen, Put, with_row, line_feed}
use Rattle.indicatif_term.specs.Inside.Scanners.{performed_all}
use Rattle.indicatif_term.specs.Terminal.{GREATEST, after}
use Rattle.indicatif_term.specs.Calls.{TermView, is_told, led_on, move_bytes}
use Rattle.indicatif_term.specs.Shows.{resting}
use Rattle.indicatif_term.specs.OwnRows.{first_place, Quietly}
use Rattle.indicatif_term.specs.Modes.{ModeTerminal, mode_resting, step_by, mode_after}
use Rattle.indicatif_term.specs.EndedRows.{is_between, SameRows, Together}
use Rattle.indicatif_term.specs.declared.target.ended_rows.EndedRows.{EndedRows}
use Rattle.indicatif_term.specs.declared.target.ended_rows.Phase.{Phase}
use Rattle.indicatif_term.specs.declared.target.ended_rows.Shown.{Shown}
use Rattle.indicatif_term.specs.declared.target.ended_rows.Shown.TheVariants.{AtOnce, AsWritten}
use Rattle.indicatif_term.specs.declared.target.ended_rows.Phase.TheVariants.{Drawing, Edge, Resting, Waiting}

-- the first n rows are unchanged at each of these bytes
abbrev pub StayAlong : ℕ → ModeTerminal → List ℕ → Type 0
StayAlong n m [] = Unit {0}
StayAlong n m (b ∷ bytes) =
    let next = step_by m.private_number m b in (take n next.terminal.screen.rows ≡ take n m.terminal.screen.rows) × StayAlong n next bytes

-- the cursor's place after a move within a draw
abbrev pub moved_place : Phase → Phase
moved_place Edge = Drawing
moved_place place = place

-- the cursor's place as a draw begins
abbrev pub drawn_place : Phase → Phase
drawn_place Resting = Drawing
drawn_place Drawing = Drawing
drawn_place Waiting = Edge
drawn_place Edge = Edge

-- what is written as a draw begins: a synchronized update, unless it is shown as it is written, and the wrap off
abbrev pub opening_bytes : Shown → List ℕ
opening_bytes AtOnce = 0x1B ∷ (codes "[?2026h" ++ 0x1B ∷ codes "[?7l")
opening_bytes AsWritten = 0x1B ∷ codes "[?7l"

-- what is written at the end of a draw
abbrev pub closing_bytes : Shown → List ℕ
closing_bytes AtOnce = 0x1B ∷ codes "[?2026l"
closing_bytes AsWritten = []

module _ {T : Type 0} (view : T → TermView) where
  -- the place is unknown after a failed call
  abbrev pub unfailed : EndedRows T → EndedRows T
  unfailed own =
      if (view own.term).faults == own.faults then own
      else record own { faults = (view own.term).faults; place = first_place own.row; column = 0 }

  -- the two terminals, the real one with its wrap on or off; if `held` is true the cursor doesn't wait
  pub record Meets (wraps held : Bool) (own : EndedRows T) (s : Screen) (m : ModeTerminal) : Type 0 where
    pub real : Screen
    pub real_is : m ≡ mode_resting wraps real
    pub same : SameRows s real
    pub columns : s.columns ≡ (view own.term).columns
    pub small : s.columns ≤ GREATEST
    pub column : s.column ≡ own.column
    pub within : s.column ≤ s.columns
    pub some_columns : 0 < real.columns
    pub not_waiting : IsTrue held → real.column < real.columns
    pub alone : own.row ≡ None
    pub known : own.faults ≡ (view own.term).faults

  -- the two terminals while the program is in a draw, the real one with its wrap on or off
  abbrev pub Held : Bool → EndedRows T → Screen → ModeTerminal → Type 0
  Held wraps own s m = Meets wraps true own s m × IsFalse (is_between own.place)

  -- the two terminals within a draw
  abbrev pub Within : EndedRows T → Screen → ModeTerminal → Type 0
  Within own s m = Held false own s m

  -- the two terminals within a draw, and something else holds too
  abbrev pub WithinIf : Type 0 → EndedRows T → Screen → ModeTerminal → Type 0
  WithinIf X own s m = Within own s m × X

  -- the two terminals within a draw, with the cursor of the one that gets the calls directly in this column
  abbrev pub WithinTo : ℕ → EndedRows T → Screen → ModeTerminal → Type 0
  WithinTo column own s m = Within own s m × (column ≤ s.columns)

  -- the two terminals within a draw, with this many columns left in the row, if a row has as many
  abbrev pub WithinRoom : ℕ → EndedRows T → Screen → ModeTerminal → Type 0
  WithinRoom wide own s m = Within own s m × (wide ≤ s.columns → s.column + wide ≤ s.columns)

  -- the two terminals between two draws, if no call has failed since
  abbrev pub Between : EndedRows T → Screen → ModeTerminal → Type 0
  Between own s m = Together view own s m × IsTrue (is_between own.place) × (own.faults ≡ (view own.term).faults)

  -- the end of a draw, before what closes it
  abbrev pub Ended : EndedRows T → Screen → ModeTerminal → Type 0
  Ended own s m = Meets true false own s m × IsTrue (is_between own.place) × (own.place ≡ Resting → own.column ≡ 0)

  -- a step that leads one terminal by f, and the other by the bytes that it writes, from P to Q
  pub record LeadsBoth (P Q : EndedRows T → Screen → ModeTerminal → Type 0) (f : Screen → Screen) (own own' : EndedRows T) (result : Result Unit Error) : Type 0 where
    pub quiet : Quietly (view own.term) (view own'.term) result
    pub bytes : List ℕ
    pub told_is : IsTrue (is_told (view own.term).told) → (view own'.term).told ≡ led_on (view own.term).told bytes
    pub stays : (s : Screen) (m : ModeTerminal) → P own s m → (n : ℕ) → n ≤ m.terminal.screen.row → StayAlong n m bytes
    pub leads : IsOk result → (s : Screen) (m : ModeTerminal) → P own s m → Q own' (f s) (mode_after m bytes)

  -- such a step that never moves the cursor up
  pub record Falls (P Q : EndedRows T → Screen → ModeTerminal → Type 0) (f : Screen → Screen) (own own' : EndedRows T) (result : Result Unit Error) : Type 0 where
    pub carries : LeadsBoth P Q f own own' result
    pub level : IsOk result → (s : Screen) (m : ModeTerminal) → P own s m → m.terminal.screen.row ≤ (mode_after m carries.bytes).terminal.screen.row

-- ---- the effect of a step on the terminal that gets the calls directly

-- to a column of the row
abbrev pub at_column : ℕ → Screen → Screen
at_column column s = record s { column = column }

-- to the front of the next row
abbrev pub next_front : Screen → Screen
next_front s = line_feed (at_column 0 s)

-- to another row, by a cursor move
abbrev pub rows_moved : ℕ → ℕ → Screen → Screen
rows_moved letter n s = (after (resting s) (move_bytes letter n)).screen

-- the cursor's row emptied, and the cursor at its front
abbrev pub front_emptied : Screen → Screen
front_emptied s = with_row (at_column 0 s) (blank_row s.columns)

-- to the next row, if this one hasn't enough columns left
abbrev pub with_room : ℕ → Screen → Screen
with_room wide s = if nat_lt (s.columns - s.column) wide then next_front s else s

-- characters put one after another
abbrev pub all_put : List ℕ → Screen → Screen
all_put cs s = performed_all (map (λ c. Put c) cs) s

-- characters with a width
abbrev pub AreShown : List ℕ → Type 0
AreShown cs = AllByRecursion (λ c. is_some (char_width false c) ≡ true) cs

-- the column after a move to the right: at most the last one; a waiting cursor stays
abbrev pub right_column : ℕ → ℕ → ℕ → ℕ
right_column columns column n = if nat_lt (columns - 1) column then column else min (min (column + n) (2 ^ 64 - 1)) (columns - 1)
