-- Laws of histories: what follows from the calls and answers that a board has kept. For all boards: rows above the bars are only added.
use Rattle.std.specs.Prelude.{◌≡◌, ℕ, ◌+◌, ◌-◌, ◌/◌, ◌<◌, ◌≤◌, true, IsFalse, List, ◌∷◌, ◌++◌, length, take, flat_map, Option, Some, None}
use Rattle.std.specs.List.{All, list_any, last_or}
use Rattle.indicatif_text.specs.Columns.{Cell, rows_of}
use Rattle.indicatif_text.specs.declared.refusal.Drawn.TheVariants.{Yes}
use Rattle.indicatif_term.specs.Calls.{TermView}
use Rattle.indicatif_term.specs.Engines.{is_failure}
use Rattle.indicatif_term.specs.Lines.{text_lines, logged_lines}
use Rattle.indicatif_term.specs.Limiters.{burst, draw_limiter}
use Rattle.indicatif_term.specs.Lists.{opening_lists, all_rows}
use Rattle.indicatif_term.specs.Screen.{Screen}
use Rattle.indicatif_bar.specs.Bounds.{unforced_draws}
use Rattle.indicatif_bar.specs.Commands.{BarRecord, Command}
use Rattle.indicatif_bar.specs.Machines.{Machine, outcomes}
use Rattle.indicatif_bar.specs.Runs.{Runs, broke, is_undisturbed, Starts, ReadsAs}
use Rattle.indicatif_bar.specs.Trackers.{Tracking}
use Rattle.indicatif_board.specs.BoardBars.{board_bars}
use Rattle.indicatif_board.specs.Boards.{Call, Log, BarLog, Drew, drawn_of, opening_board, board}
use Rattle.indicatif_board.specs.PlainBoardLaws.{IsPlainCall}
use Rattle.indicatif_board.specs.Recorded.{BoardStep, Record, IsRun, calls_of, answers_of}

-- the rows above are the earlier ones and more, in each run of which the terminal broke no call off
abbrev pub AboveOnlyGrows : {State Call Answer : Type 0} → Machine State Call Answer → Type 0
AboveOnlyGrows {State} {Call} {Answer} m =
    (calls : List (Call × ℕ)) (answers : List Answer) (old : Option TermView) (s : State) (new : Option TermView) (next : State) →
    Runs m calls answers old s new next → IsFalse (list_any (broke m) answers) → (rows : List (List Cell)) × ((m.lists next).above ≡ (m.lists s).above ++ rows)

-- the text that a call logs above the bars, if it logs one
abbrev pub text_of : {B C : Type 0} → Call B C → Option (List ℕ)
text_of (Log text) = Some text
text_of (BarLog id text) = Some text
text_of _ = None

-- the terminal broke none of these steps off
abbrev pub AreUnbroken : {K : Type 0} → List (BoardStep K) → Type 0
AreUnbroken steps = IsFalse (list_any (λ answer. is_failure (drawn_of answer)) (answers_of steps))

module _ {K : Type 0} (T : Type 0) (m : Tracking K) where
  -- if nothing failed and no memory was refused, the kept answers and the board's state follow from the calls alone
  abbrev pub FollowsFromItsCalls : Type 0
  FollowsFromItsCalls =
      (opened : Option TermView) (r : Record K T) (last : Option TermView) (run : IsRun m opened r last) → All (λ answer. is_undisturbed (drawn_of answer) ≡ true) (answers_of r.steps) →
      outcomes (board (board_bars m) r.mark) r.target (calls_of r.steps) (opening_board r.limiter) ≡ (answers_of r.steps, run.state)

  -- a board that began with a new rate limiter has made at most 20 unforced draws, and one more for each interval from its start to the last of them
  abbrev pub HasBoundedDraws : Type 0
  HasBoundedDraws =
      (opened : Option TermView) (r : Record K T) (last : Option TermView) (run : IsRun m opened r last) (rate making : ℕ) → 0 < rate → rate < 256 → r.limiter ≡ Some (draw_limiter rate making) →
      let moments = unforced_draws (board (board_bars m) r.mark) (calls_of r.steps) (answers_of r.steps) opened (opening_board r.limiter) last run.state run.runs in
      (final : ℕ) → last_or None moments ≡ Some final → length moments ≤ burst + (final - making) / (draw_limiter rate making).interval

  -- an entry that logs a text was answered `Yes`, and the terminal broke no later call off: the text's rows are above
  abbrev pub LoggedRowsStand : Type 0
  LoggedRowsStand =
      (opened : Option TermView) (r : Record K T) (last : Option TermView) (run : IsRun m opened r last) (before after : List (BoardStep K)) (call : Call (BarRecord K) (Command K)) (now : ℕ)
      (text : List ℕ) → text_of call ≡ Some text → r.steps ≡ before ++ record { call = call; now = now; answer = Drew Yes } ∷ after → AreUnbroken after →
      (front : List (List Cell)) × (rest : List (List Cell)) × (run.state.lists.above ≡ front ++ flat_map (rows_of r.target.columns) (text_lines (logged_lines text)) ++ rest)

  -- a board on a terminal whose state can be read, and which showed an opening when the history began: if the terminal broke no call off and all texts are plain, the picture is the untouched rows and
  -- those of the board's lists
  abbrev pub IsReadAsItsRun : Type 0
  IsReadAsItsRun =
      (v : TermView) (r : Record K T) (last : Option TermView) (run : IsRun m (Some v) r last) → AreUnbroken r.steps → All (λ call. IsPlainCall m call.0) (calls_of r.steps) →
      (opening : Screen) → Starts v opening opening_lists →
      (v' : TermView) × (last ≡ Some v') × ReadsAs v' (take opening.row opening.rows ++ all_rows v.columns run.state.lists)
