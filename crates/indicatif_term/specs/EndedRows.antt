-- Rows that the program wraps and ends by itself, on a terminal of any width.
use Rattle.std.specs.Prelude.{◌≡◌, ◌⊎◌, ℕ, ◌<◌, ◌≤◌, Bool, true, false, IsTrue, IsFalse, List, [], ◌∷◌, length, None, Result, IsOk}
use Rattle.std.specs.declared.io.Error.{Error}
use Rattle.indicatif_term.specs.Screen.{Screen}
use Rattle.indicatif_term.specs.Terminal.{GREATEST, after}
use Rattle.indicatif_term.specs.Calls.{TermView, is_told, led_on}
use Rattle.indicatif_term.specs.Shows.{resting}
use Rattle.indicatif_term.specs.Resizes.{column_then}
use Rattle.indicatif_term.specs.Modes.{ModeTerminal, mode_resting, mode_after, ModeRowsStay}
use Rattle.indicatif_term.specs.OwnRows.{inner_term}
use Rattle.indicatif_term.specs.declared.target.ended_rows.EndedRows.{EndedRows}
use Rattle.indicatif_term.specs.declared.target.own_rows.OwnRows.{OwnRows}
use Rattle.indicatif_term.specs.declared.target.own_rows.Rows.{Rows}
use Rattle.indicatif_term.specs.declared.target.own_rows.Rows.TheVariants.{Left, Ended}
use Rattle.indicatif_term.specs.declared.target.ended_rows.Phase.{Phase}
use Rattle.indicatif_term.specs.declared.target.ended_rows.Phase.TheVariants.{Drawing, Edge, Resting, Waiting}

-- whether the cursor is between two draws: then the wrap is on
abbrev pub is_between : Phase → Bool
is_between Drawing = false
is_between Edge = false
is_between Resting = true
is_between Waiting = true

-- two screens have the same number of rows, the same window, and the cursor on the same row of it
pub record SameRows (s real : Screen) : Type 0 where
  pub count : length real.rows ≡ length s.rows
  pub height : real.height ≡ s.height
  pub row : real.row ≡ s.row
  pub in_rows : real.row < length real.rows
  pub window : 0 < real.height

-- a terminal after calls that it got directly, each by its bytes
abbrev pub screen_after : Screen → List (List ℕ) → Screen
screen_after s [] = s
screen_after s (asked ∷ calls) = screen_after (after (resting s) asked).screen calls

-- none of the calls begins with the cursor above row n
abbrev pub BeginBelow : ℕ → Screen → List (List ℕ) → Type 0
BeginBelow n s [] = Unit {0}
BeginBelow n s (asked ∷ calls) = (n ≤ s.row) × BeginBelow n (after (resting s) asked).screen calls

-- the cursor is on a row of the window
pub record HasCursor (s : Screen) : Type 0 where
  pub in_rows : s.row < length s.rows
  pub window : 0 < s.height

-- two terminals after a resize: one, s, became s', of w columns, and the other, m, became `real'`, of any number: their cursors are on the same row, and that of s' is where any terminal that gets
-- another size puts it
pub record ResizedAlike (w : ℕ) (s s' real' : Screen) (m : ModeTerminal) : Type 0 where
  pub some : 0 < s.columns
  pub same : SameRows s' real'
  pub columns : s'.columns ≡ w
  pub column : s'.column ≡ column_then w s
  pub some_columns : 0 < real'.columns
  pub not_waiting : IsFalse m.wraps → real'.column < real'.columns

module _ {T : Type 0} (view : T → TermView) where
  -- between two calls: s is a terminal of the given columns, which got the calls directly, and m is the real one, of any number of columns, which got the bytes that were written
  pub record Together (own : EndedRows T) (s : Screen) (m : ModeTerminal) : Type 0 where
    pub real : Screen
    pub real_is : m ≡ mode_resting (is_between own.place) real
    pub same : SameRows s real
    pub columns : s.columns ≡ (view own.term).columns
    pub small : s.columns ≤ GREATEST
    -- the program knows the column
    pub column : s.column ≡ own.column
    pub within : s.column ≤ s.columns
    pub some_columns : 0 < real.columns
    -- during a draw the cursor doesn't wait
    pub not_waiting : IsFalse (is_between own.place) → real.column < real.columns
    pub at_front : own.place ≡ Resting → own.column ≡ 0
    pub alone : own.row ≡ None
    -- no call has failed since the draw began
    pub known : (own.place ≡ Resting) ⊎ (own.faults ≡ (view own.term).faults)

  -- rows that get w columns stay together with two terminals that got another size
  abbrev pub SizeKeeps : ℕ → EndedRows T → EndedRows T → Type 0
  SizeKeeps w own own' =
      (s s' real' : Screen) (m : ModeTerminal) → Together own s m → ResizedAlike w s s' real' m → Together own' s' (mode_resting m.wraps real')

  -- the same for rows that the terminal ends, of which nothing is stated, or the program
  abbrev pub RowsKeep : ℕ → Rows T → Rows T → Type 0
  RowsKeep w (Left term) (Left term') = Unit {0}
  RowsKeep w (Ended own) (Ended own') = SizeKeeps w own own'
  RowsKeep w _ _ = ⊥

  -- the same for a terminal
  abbrev pub OwnKeeps : ℕ → OwnRows T → OwnRows T → Type 0
  OwnKeeps w own own' = RowsKeep w own.rows own'.rows

  -- calls whose bytes one terminal gets directly, and whose written bytes the real one gets: the rows above the topmost row on which a call began stand, after each byte, even if the last call fails;
  -- and if none fails, the two are together again
  pub record Draws (calls : List (List ℕ)) (own own' : EndedRows T) (result : Result Unit Error) : Type 0 where
    pub bytes : List ℕ
    pub told_is : IsTrue (is_told (view own.term).told) → (view own'.term).told ≡ led_on (view own.term).told bytes
    pub stays : (s : Screen) (m : ModeTerminal) → Together own s m → (n : ℕ) → BeginBelow n s calls → ModeRowsStay n m bytes
    pub goes_on : IsOk result → (s : Screen) (m : ModeTerminal) → Together own s m → Together own' (screen_after s calls) (mode_after m bytes)

  -- the same for rows that the terminal ends, of which nothing is stated, or the program
  abbrev pub RowsDraw : List (List ℕ) → Rows T → Rows T → Result Unit Error → Type 0
  RowsDraw calls (Left term) (Left term') result = Unit {0}
  RowsDraw calls (Ended own) (Ended own') result = Draws calls own own' result
  RowsDraw calls _ _ result = ⊥

  -- calls of a terminal whose rows the program wraps, or not
  abbrev pub OwnDraws : List (List ℕ) → OwnRows T → OwnRows T → Result Unit Error → Type 0
  OwnDraws calls own own' result = RowsDraw calls own.rows own'.rows result

  -- two terminals are together if the program ends rows
  abbrev pub RowsTogether : Rows T → Screen → ModeTerminal → Type 0
  RowsTogether (Left term) s m = ⊥
  RowsTogether (Ended own) s m = Together own s m

  -- the same for a terminal
  abbrev pub OwnTogether : OwnRows T → Screen → ModeTerminal → Type 0
  OwnTogether own s m = RowsTogether own.rows s m

  -- where rows begin that the program ends: a screen of the given columns, and the real one, whatever columns it has; the cursor at the front of the same row of both
  pub record BeginOn (term : T) (s real : Screen) : Type 0 where
    pub same : SameRows s real
    pub columns : s.columns ≡ (view term).columns
    pub small : s.columns ≤ GREATEST
    pub front : s.column ≡ 0
    pub some_columns : 0 < real.columns

  -- what was written since an `OwnRows` was made over `term`, and it is now `own'`: wherever it began, and whatever columns the real one has, the rows above the topmost row on which a call began
  -- stand, after each byte
  pub record RowsStand (calls : List (List ℕ)) (term : T) (own' : OwnRows T) : Type 0 where
    pub bytes : List ℕ
    pub told_is : IsTrue (is_told (view term).told) → (view (inner_term own')).told ≡ led_on (view term).told bytes
    pub stays : (s real : Screen) → BeginOn term s real → (n : ℕ) → BeginBelow n s calls → ModeRowsStay n (mode_resting true real) bytes
