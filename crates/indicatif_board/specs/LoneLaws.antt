-- A lone bar as a board with one bar, which lays itself out at each draw and is never dropped, so that it keeps no rows.
use Rattle.std.specs.Prelude.{◌≡◌, ℕ, true, false, List, [], ◌∷◌, map, Option, Result}
use Rattle.indicatif_text.specs.declared.refusal.Refusal.{Refusal}
use Rattle.indicatif_text.specs.declared.refusal.Drawn.{Drawn}
use Rattle.indicatif_term.specs.Calls.{TermView}
use Rattle.indicatif_term.specs.Limiters.{Limiter}
use Rattle.indicatif_bar.specs.Machines.{AtOnce}
use Rattle.indicatif_bar.specs.Runs.{Runs}
use Rattle.indicatif_bar.specs.Lone.{LoneState, LoneCall, Obey, Log, Clear as ClearLone, opening_state, lone}
use Rattle.indicatif_board.specs.Boards.{BoardKind, BoardState, Id, End, New, Call, Tell, BarLog, Clear, Given, says, opening_board, inserted, board}

-- the first bar of a board
abbrev pub first_bar : ℕ → Id
first_bar mark = record { mark = mark; number = 0 }

-- a board with one bar in the state of a lone one, with these stored lines
abbrev pub with_one : {B : Type 0} → List (List ℕ) → LoneState B → BoardState B
with_one stored s = record {
  members = record { number = 0; bar = s.bar; stored = stored; dropped = false } ∷ [];
  made = 1;
  bottom = false;
  limiter = s.limiter;
  lists = s.lists;
}

-- a bar's call, as a call of its board: a log is the bar's own
abbrev pub on_board : {B C : Type 0} → Id → LoneCall C → Call B C
on_board id (Obey command) = Tell id command
on_board id (Log text) = BarLog id text
on_board id ClearLone = Clear

-- a lone bar's call with its moment, as one of that board
abbrev pub timed_on_board : {B C : Type 0} → ℕ → LoneCall C × ℕ → Call B C × ℕ
timed_on_board mark call = (on_board (first_bar mark) call.0, call.1)

-- the insertion of a first bar makes such a board, as a lone bar begins
abbrev pub OneIsTakenIn : Type 0 → Type 0
OneIsTakenIn B = (mark : ℕ) (bar : B) (limiter : Option Limiter) →
    inserted mark End (New bar) (opening_board limiter) ≡ AtOnce true (Given (first_bar mark)) (with_one [] (opening_state bar limiter))

-- afterwards every run of a lone bar is one of the board: same answers, same bytes, same lists, so the same picture
abbrev pub LoneRunsAreBoardRuns : {B C : Type 0} → BoardKind B C → Type 0
LoneRunsAreBoardRuns {B} {C} kind =
    (mark : ℕ) (calls : List (LoneCall C × ℕ)) (answers : List (Result Drawn Refusal)) (old : Option TermView) (s : LoneState B) (new : Option TermView) (next : LoneState B)
    (stored : List (List ℕ)) → Runs (lone kind.bars) calls answers old s new next →
    (stored_then : List (List ℕ)) × Runs (board kind mark) (map (timed_on_board mark) calls) (map says answers) old (with_one stored s) new (with_one stored_then next)
