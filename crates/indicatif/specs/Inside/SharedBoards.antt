-- Which answers the calls of shared boards can give, by the call alone.
use Rattle.std.specs.Prelude.{Bool, true, false, IsTrue, ◌||◌, ◌&&◌, Result, Ok, Err}
use Rattle.indicatif_text.specs.declared.refusal.Refusal.{Refusal}
use Rattle.indicatif_text.specs.declared.refusal.Refusal.TheVariants.{Memory, ForeignBar}
use Rattle.indicatif_text.specs.declared.refusal.Drawn.{Drawn}
use Rattle.indicatif_bar.specs.Commands.{BarRecord, Command}
use Rattle.indicatif_bar.specs.Lone.{Obey}
use Rattle.indicatif_board.specs.Boards.{BoardState, Call, Insert, Remove, Drop, Log, BarLog, Clear, Redraw, Align, Tell, Location, Before, After, Entrant, New, Old, Id, Answer, Given, Accepted, Drew, Refused, drawn_of}
use Rattle.indicatif.specs.Fronts.{of_no_draw, of_a_draw, of_a_clear, has_no_bar, bar_answers}

-- a call of a board whose bars have trackers of this type; a state of one
abbrev pub SharedCall : Type 0 → Type 0
SharedCall K = Call (BarRecord K) (Command K)

abbrev pub SharedState : Type 0 → Type 0
SharedState K = BoardState (BarRecord K)

-- what an answer says of a bar that was to be inserted; an insertion gives only the first two
abbrev pub given_by : Answer → Result Id Refusal
given_by (Given id) = Ok id
given_by (Refused e) = Err e
given_by Accepted = Err Memory
given_by (Drew drawn) = Err Memory

-- a bar of another board was to be removed; a missing bar is no refusal
abbrev pub is_foreign : Result Drawn Refusal → Bool
is_foreign (Err ForeignBar) = true
is_foreign _ = false

-- an insertion names a bar that should be there: its anchor, or the bar to insert
abbrev pub names_bar : {B : Type 0} → Entrant B → Location → Bool
names_bar (Old id) at = true
names_bar (New bar) (Before anchor) = true
names_bar (New bar) (After anchor) = true
names_bar (New bar) _ = false

-- an answer of a board's call, by what it says of the draw
abbrev pub board_answers : {K : Type 0} → SharedCall K → Result Drawn Refusal → Bool
board_answers (Insert at entrant) drawn = of_no_draw drawn || (names_bar entrant at && has_no_bar drawn)
board_answers (Remove id) drawn = of_no_draw drawn || is_foreign drawn
board_answers (Drop id) drawn = of_no_draw drawn || (of_a_draw drawn || has_no_bar drawn)
board_answers (Log text) drawn = of_a_draw drawn
board_answers (BarLog id text) drawn = of_a_draw drawn || has_no_bar drawn
board_answers Clear drawn = of_a_clear drawn
board_answers Redraw drawn = of_a_draw drawn
board_answers (Align bottom) drawn = of_no_draw drawn
board_answers (Tell id command) drawn = bar_answers (Obey command) drawn

-- an answer of a draw that a board's call can give
unfoldable pub SharedDraws : (K : Type 0) → SharedCall K → Result Drawn Refusal → Type 0
SharedDraws K call drawn = IsTrue (board_answers call drawn)

-- an answer that a board's call can give
abbrev pub SharedAnswers : (K : Type 0) → SharedCall K → Answer → Type 0
SharedAnswers K call answer = SharedDraws K call (drawn_of answer)
