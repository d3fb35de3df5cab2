-- Calls and answers of a board as values, and their definitions.
use Rattle.std.specs.Prelude.{◌≡◌, ◌≢◌, ◌==◌, ◌&&◌, ℕ, Bool, true, false, List, [], ◌∷◌, Option, Result, Ok, Err, string_bytes}
use Rattle.indicatif_text.specs.declared.refusal.Refusal.{Refusal}
use Rattle.indicatif_text.specs.declared.refusal.Refusal.TheVariants.{ForeignBar}
use Rattle.indicatif_bar.specs.Tabs.{is_some_text}
use Rattle.indicatif_bar.specs.Commands.{BarRecord, Command, command_as, copy_takes_memory}
use Rattle.indicatif_term.specs.Target.{is_bottom}
use Rattle.indicatif_board.specs.Boards.{Entrant, New, Old, Location, End, Index, FromBack, Before, After, Id, Call, Insert, Remove, Drop, Log, BarLog, Clear, Redraw, Align, Tell, Answer, Given, Accepted, Drew, Refused}
use Rattle.indicatif_board.specs.BarIds.{id_of}
use Rattle.indicatif_board.specs.declared.bar_id.BarId.{BarId}
use Rattle.indicatif_board.specs.declared.calls.Candidate.{Candidate}
use Rattle.indicatif_board.specs.declared.calls.Candidate.TheVariants.{New as NewCandidate, Member as OldCandidate}
use Rattle.indicatif_board.specs.declared.calls.Turned.{Turned}
use Rattle.indicatif_board.specs.declared.calls.InsertLocation.{InsertLocation}
use Rattle.indicatif_board.specs.declared.calls.InsertLocation.TheVariants as location
use Rattle.indicatif_board.specs.declared.calls.Call.{Call as CallValue}
use Rattle.indicatif_board.specs.declared.calls.Call.TheVariants as call
use Rattle.indicatif_board.specs.declared.calls.Answer.{Answer as AnswerValue}
use Rattle.indicatif_board.specs.declared.calls.Answer.TheVariants as answer

-- a candidate, as its definition
abbrev pub entrant_of : {K : Type 0} → Candidate K → Entrant (BarRecord K)
entrant_of (NewCandidate bar) = New bar
entrant_of (OldCandidate id) = Old (id_of id)

-- the answer of an insertion
abbrev pub given : {K : Type 0} → Result BarId (Turned K) → Answer
given (Ok id) = Given (id_of id)
given (Err turned) = Refused turned.refusal

-- the answer of a removal
abbrev pub removal : {K : Type 0} → Result (Option (BarRecord K)) Refusal → Answer
removal (Ok bar) = Accepted
removal (Err e) = Refused e

-- ---- values

-- a place of the order
abbrev pub place_at : InsertLocation → Location
place_at location.End = End
place_at (location.Index index) = Index index
place_at (location.FromBack count) = FromBack count
place_at (location.Before anchor) = Before (id_of anchor)
place_at (location.After anchor) = After (id_of anchor)

-- a call that is a value, as its definition
abbrev pub call_of : {K : Type 0} → CallValue K → Call (BarRecord K) (Command K)
call_of (call.Insert at candidate) = Insert (place_at at) (entrant_of candidate)
call_of (call.Remove id) = Remove (id_of id)
call_of (call.Drop id) = Drop (id_of id)
call_of (call.Log text) = Log (string_bytes text)
call_of (call.BarLog id text) = BarLog (id_of id) (string_bytes text)
call_of call.Clear = Clear
call_of call.Redraw = Redraw
call_of (call.Align alignment) = Align (is_bottom alignment)
call_of (call.Bar id command) = Tell (id_of id) (command_as string_bytes command)

-- a call that is a value with its moment, as its definition
abbrev pub timed : {K : Type 0} → CallValue K × ℕ → Call (BarRecord K) (Command K) × ℕ
timed c = (call_of c.0, c.1)

-- a copy of a candidate takes memory if it is a new bar
abbrev pub entrant_copy_takes : {K : Type 0} → Entrant (BarRecord K) → Bool
entrant_copy_takes (New bar) = true
entrant_copy_takes (Old id) = false

-- a copy of a call takes memory if it has a new bar, a text that isn't empty, or a bar's command whose copy takes memory
abbrev pub call_copy_takes : {K : Type 0} → Call (BarRecord K) (Command K) → Bool
call_copy_takes (Insert at entrant) = entrant_copy_takes entrant
call_copy_takes (Log text) = is_some_text text
call_copy_takes (BarLog id text) = is_some_text text
call_copy_takes (Tell id command) = copy_takes_memory command
call_copy_takes _ = false

-- an answer that is a value, as its definition
abbrev pub answer_of : AnswerValue → Answer
answer_of (answer.Id id) = Given (id_of id)
answer_of answer.Accepted = Accepted
answer_of (answer.Drawn drawn) = Drew drawn
answer_of (answer.Refused refusal) = Refused refusal

-- ---- which bar is meant

-- this is the bar with the number, on the board with the mark
abbrev pub is_bar : ℕ → ℕ → Id → Bool
is_bar mark number id = id.mark == mark && id.number == number

module _ {K : Type 0} where
  -- another board's bar is to be inserted
  abbrev pub IsForeign : ℕ → Entrant (BarRecord K) → Type 0
  IsForeign mark (New bar) = ⊥
  IsForeign mark (Old id) = id.mark ≢ mark

  -- a call of the board with this mark names another board's bar; for an insertion beside an anchor, the anchor is looked for first
  abbrev pub NamesForeign : ℕ → Call (BarRecord K) (Command K) → Type 0
  NamesForeign mark (Insert (Before anchor) entrant) = anchor.mark ≢ mark
  NamesForeign mark (Insert (After anchor) entrant) = anchor.mark ≢ mark
  NamesForeign mark (Insert at entrant) = IsForeign mark entrant
  NamesForeign mark (Remove id) = id.mark ≢ mark
  NamesForeign mark (Drop id) = id.mark ≢ mark
  NamesForeign mark (BarLog id text) = id.mark ≢ mark
  NamesForeign mark (Tell id command) = id.mark ≢ mark
  NamesForeign mark _ = ⊥

  -- each of these calls that names another board's bar is refused with `ForeignBar`
  abbrev pub AreTurnedAway : ℕ → List (Call (BarRecord K) (Command K) × ℕ) → List Answer → Type 0
  AreTurnedAway mark [] [] = Unit {0}
  AreTurnedAway mark (call ∷ calls) (answer ∷ answers) = (NamesForeign mark call.0 → answer ≡ Refused ForeignBar) × AreTurnedAway mark calls answers
  AreTurnedAway mark _ _ = ⊥

  -- a call of the board with this mark removes, drops or commands its bar with this number
  abbrev pub acts_on : ℕ → ℕ → Call (BarRecord K) (Command K) → Bool
  acts_on mark number (Remove id) = is_bar mark number id
  acts_on mark number (Drop id) = is_bar mark number id
  acts_on mark number (Tell id command) = is_bar mark number id
  acts_on mark number _ = false

-- an answer gives the bar with this number
abbrev pub gives : ℕ → Answer → Bool
gives number (Given id) = id.number == number
gives number _ = false
