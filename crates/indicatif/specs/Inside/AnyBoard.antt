-- What a call changes in a shared board, with or without its history.
use Rattle.std.specs.Prelude.{◌≡◌, ◌⊎◌, ℕ, Bool, Option, Some, None, IfSome, Result, Ok, Err}
use Rattle.indicatif_text.specs.declared.refusal.Refusal.{Refusal}
use Rattle.indicatif_text.specs.declared.refusal.Refusal.TheVariants.{Memory, RecordedTarget}
use Rattle.indicatif_text.specs.declared.refusal.Drawn.{Drawn}
use Rattle.indicatif_term.specs.Calls.{TermView}
use Rattle.indicatif_term.specs.Limiters.{Limiter}
use Rattle.indicatif_term.specs.Lists.{opening_lists}
use Rattle.indicatif_term.specs.Target.{term_of, limiter_of}
use Rattle.indicatif_bar.specs.Trackers.{Tracking}
use Rattle.indicatif_bar.specs.Commands.{BarRecord}
use Rattle.indicatif_board.specs.Boards.{BoardState, Id, Location, Entrant, Answer, Given, Accepted, Drew, Refused, Clear, Insert, Remove, drawn_of}
use Rattle.indicatif_board.specs.Multi.{LeadsBy, IsIn, RecordsStay, terminal_of, moves_of}
use Rattle.indicatif_board.specs.Recorded.{Record, AddsCall}
use Rattle.indicatif_board.specs.declared.multi.Board.{Board}
use Rattle.indicatif.specs.Inside.SharedBoards.{SharedCall, given_by}
use Rattle.indicatif.specs.declared.shared.any_board.AnyBoard.{AnyBoard}
use Rattle.indicatif.specs.declared.shared.any_board.AnyBoard.TheVariants.{Open, Recorded}

-- a board made this call: its step; a history grows by exactly the call, or has no room for it, and nothing changes
abbrev pub BoardMakes : {K T : Type 0} → Tracking K → (T → TermView) → AnyBoard K T → SharedCall K → ℕ → Answer → AnyBoard K T → Type 0
BoardMakes {K} {T} m view (Open old) call now answer new = (b : Board K T) × (new ≡ Open b) × LeadsBy m view old b call now answer
BoardMakes {K} {T} m view (Recorded old) call now answer new =
    (r : Record K T) × (new ≡ Recorded r) × (AddsCall m view old call now answer r ⊎ ((r ≡ old) × (answer ≡ Refused Memory)))

-- why a call was refused, if it was
abbrev pub refused_with : Answer → Option Refusal
refused_with (Refused e) = Some e
refused_with Accepted = None
refused_with (Given id) = None
refused_with (Drew drawn) = None

module _ {K T : Type 0} (m : Tracking K) (view : T → TermView) where
  -- a board made this call, which draws, with this answer
  abbrev pub BoardDraws : AnyBoard K T → SharedCall K → ℕ → Result Drawn Refusal → AnyBoard K T → Type 0
  BoardDraws old call now drawn new = (told : Answer) × (drawn ≡ drawn_of told) × BoardMakes m view old call now told new

  -- a board removed a bar, or refused to
  abbrev pub BoardRemoves : AnyBoard K T → Id → ℕ → Option Refusal → AnyBoard K T → Type 0
  BoardRemoves old id now refused new = (told : Answer) × (refused ≡ refused_with told) × BoardMakes m view old (Remove id) now told new

  -- a board inserted a bar, with this result
  abbrev pub BoardTakes : AnyBoard K T → Location → Entrant (BarRecord K) → ℕ → Result Id Refusal → AnyBoard K T → Type 0
  BoardTakes old at entrant now taken new = (told : Answer) × (taken ≡ given_by told) × BoardMakes m view old (Insert at entrant) now told new

module _ {K T : Type 0} where
  -- a board was given another target: that is its terminal, its bars' records are unchanged, and nothing is drawn there yet
  pub record StandsOn (target : Option (T × Option Limiter)) (old new : Board K T) : Type 0 where
    pub terminal : terminal_of new ≡ term_of target
    pub records : RecordsStay old new
    pub state : (mark : ℕ) (s : BoardState (BarRecord K)) → IsIn mark old s → IsIn mark new (record s { limiter = limiter_of target; lists = opening_lists })

  -- a board was given another target: one without a history uses it; one with its history refuses it, and keeps its own
  abbrev pub BoardTurns : AnyBoard K T → Option (T × Option Limiter) → Result Unit Refusal → AnyBoard K T → Type 0
  BoardTurns (Open old) target answer new = (answer ≡ Ok tt) × (b : Board K T) × (new ≡ Open b) × StandsOn target old b
  BoardTurns (Recorded old) target answer new = (answer ≡ Err RecordedTarget) × (new ≡ Recorded old)

  -- a board draws by cursor moves or not, if it has a terminal; the terminal and its bars' records are unchanged
  pub record MovesSo (on : Bool) (old new : Board K T) : Type 0 where
    pub moves : IfSome (moves_of new) (λ moves. moves ≡ on)
    pub terminal : terminal_of new ≡ terminal_of old
    pub records : RecordsStay old new
    pub state : (mark : ℕ) (s : BoardState (BarRecord K)) → IsIn mark old s → IsIn mark new s

  -- a board was told whether to draw by cursor moves: one without a history does; one with its history refuses
  abbrev pub BoardMoves : AnyBoard K T → Bool → Result Unit Refusal → AnyBoard K T → Type 0
  BoardMoves (Open old) on answer new = (answer ≡ Ok tt) × (b : Board K T) × (new ≡ Open b) × MovesSo on old b
  BoardMoves (Recorded old) on answer new = (answer ≡ Err RecordedTarget) × (new ≡ Recorded old)

-- a board was cleared and given another target: one without a history was cleared with this answer, and uses that target; one with its history refuses, and keeps its own
abbrev pub BoardMovesTo : {K T : Type 0} → Tracking K → (T → TermView) → AnyBoard K T → Option (T × Option Limiter) → ℕ → Result Drawn Refusal → AnyBoard K T → Type 0
BoardMovesTo {K} {T} m view old target now answer new =
    ((between : AnyBoard K T) × (turned : Result Unit Refusal) × BoardDraws m view old Clear now answer between × BoardTurns between target turned new)
    ⊎ ((answer ≡ Err RecordedTarget) × (new ≡ old))
