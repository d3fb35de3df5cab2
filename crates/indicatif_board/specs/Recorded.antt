-- A board with its calls and answers: their definitions, and what a call adds to them.
use Rattle.std.specs.Prelude.{◌≡◌, ℕ, true, false, List, [], ◌∷◌, ◌++◌, map, Option, Some, None, if◌then◌else◌}
use Rattle.std.specs.declared.io.ErrorKind.{ErrorKind}
use Rattle.std.specs.declared.io.ErrorKind.TheVariants.{Other}
use Rattle.indicatif_term.specs.Calls.{TermView, Nothing}
use Rattle.indicatif_term.specs.Limiters.{Limiter}
use Rattle.indicatif_bar.specs.Trackers.{Tracking}
use Rattle.indicatif_bar.specs.Commands.{BarRecord, Command}
use Rattle.indicatif_bar.specs.Machines.{Target, target_of}
use Rattle.indicatif_bar.specs.Runs.{Runs}
use Rattle.indicatif_board.specs.BoardBars.{board_bars}
use Rattle.indicatif_board.specs.Boards.{BoardState, Call, Insert, Remove, New, Answer, Accepted, Refused, opening_board, board}
use Rattle.indicatif_board.specs.Members.{Member, is_member, said_of}
use Rattle.indicatif_board.specs.Calls.{call_of, answer_of}
use Rattle.indicatif_board.specs.Multi.{IsIn, LeadsBy, SlotsChange, RecordsChange, known}
use Rattle.indicatif_board.specs.declared.multi.Board.{Board}
use Rattle.indicatif_board.specs.declared.recorded.Size.{Size}
use Rattle.indicatif_board.specs.declared.recorded.Entry.{Entry}

-- ---- steps

-- a call at a moment, and its answer
pub record CallStep (C A : Type 0) : Type 0 where
  pub call : C
  pub now : ℕ
  pub answer : A

-- the calls of steps with their moments, and their answers
abbrev pub calls_of : {C A : Type 0} → List (CallStep C A) → List (C × ℕ)
calls_of = map (λ e. (e.call, e.now))

abbrev pub answers_of : {C A : Type 0} → List (CallStep C A) → List A
answers_of = map (λ e. e.answer)

-- ---- what is stored

-- a target by the size of its terminal; a hidden one without a size
abbrev pub target_by : Option Size → Target
target_by None = record { hidden = true; columns = 0; rows = 0 }
target_by (Some size) = record { hidden = false; columns = size.columns; rows = size.rows }

-- a step of a board
abbrev pub BoardStep : Type 0 → Type 0
BoardStep K = CallStep (Call (BarRecord K) (Command K)) Answer

-- an entry, as its definition
abbrev pub step_of : {K : Type 0} → Entry K → BoardStep K
step_of e = record { call = call_of e.call; now = e.now; answer = answer_of e.answer }

-- a board, the mark, the limiter and the target of its opening, and the steps since then
pub record Record (K T : Type 0) : Type 0 where
  pub mark : ℕ
  pub limiter : Option Limiter
  pub target : Target
  pub board : Board K T
  pub steps : List (BoardStep K)

-- a terminal with this size whose state can't be read, with this many faults, the last of this kind; none if the target is hidden
abbrev pub untold : Target → ℕ → ErrorKind → Option TermView
untold target faults kind =
    if target.hidden then None else Some (record { told = Nothing; columns = target.columns; rows = target.rows; faults = faults; kind = kind })

module _ {K T : Type 0} where
  -- the steps are a run from the opening on, all on a target of the opening's size, and the board is where that run ends; the first was known of the target at its start, and the second at its end
  pub record IsRun (m : Tracking K) (opened : Option TermView) (r : Record K T) (last : Option TermView) : Type 0 where
    pub size : target_of opened ≡ r.target
    pub state : BoardState (BarRecord K)
    pub holds : IsIn r.mark r.board state
    pub runs : Runs (board (board_bars m) r.mark) (calls_of r.steps) (answers_of r.steps) opened (opening_board r.limiter) last state

  -- they are one run, whatever is known of the terminal: clauses about a terminal of this size whose state can't be read hold of it
  abbrev pub IsOneRun : Tracking K → Record K T → Type 0
  IsOneRun m r = (faults : ℕ) × (kind : ErrorKind) × IsRun m (untold r.target 0 Other) r (untold r.target faults kind)

  -- the board made this call, with this answer, and exactly that step was added
  pub record AddsCall (m : Tracking K) (view : T → TermView) (old : Record K T) (call : Call (BarRecord K) (Command K)) (now : ℕ) (answer : Answer) (new : Record K T) : Type 0 where
    pub mark : new.mark ≡ old.mark
    pub limiter : new.limiter ≡ old.limiter
    pub target : new.target ≡ old.target
    -- the terminal had the opening's size
    pub size : target_of (known view old.board) ≡ old.target
    pub steps : new.steps ≡ old.steps ++ record { call = call; now = now; answer = answer } ∷ []
    pub leads : LeadsBy m view old.board new.board call now answer
    -- its effect on the slots and the records, as for a board without its history
    pub slots : SlotsChange call answer old.board new.board
    pub records : RecordsChange m call now answer old.board new.board

-- the bar that a call with this answer hands back: a new one that was refused, or one that was removed
abbrev pub handed_back : {K : Type 0} → Call (BarRecord K) (Command K) → Answer → BarRecord K → List (Member (BarRecord K)) → Option (BarRecord K)
handed_back (Insert at (New bar)) (Refused e) other members = Some bar
handed_back (Remove id) Accepted other members = if is_member id.number members then Some (said_of other (λ b. b) id.number members) else None
handed_back _ _ other members = None
