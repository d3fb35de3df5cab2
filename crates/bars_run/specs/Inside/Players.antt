-- A board after lines were played on it.
use Rattle.std.specs.Prelude.{◌≡◌, ℕ, ◌<◌, IsFalse, List, [], ◌∷◌, ◌++◌, map, replicate, Option, Some, None, All}
use Rattle.indicatif_term.specs.Terminal.{blank_terminal}
use Rattle.indicatif_term.specs.Target.{is_bottom}
use Rattle.indicatif_term.specs.Cells.{MemoryTerm, view_of}
use Rattle.indicatif_term.specs.Pictures.{row_text}
use Rattle.indicatif_bar.specs.declared.tracker.NoTracker.{NoTracker}
use Rattle.indicatif_bar.specs.Scripts.{Called, Size, Plays}
use Rattle.indicatif_board.specs.Boards.{BoardState, Align, opening_board}
use Rattle.indicatif_board.specs.Multi.{IsIn, known}
use Rattle.indicatif_board.specs.declared.multi.Board.{Board}
use Rattle.bars_run.specs.declared.arguments.Asked.{Asked}
use Rattle.bars_run.specs.declared.fault.Fault.{Fault}
use Rattle.bars_run.specs.declared.fault.Fault.TheVariants.{BadCommand, Line}
use Rattle.bars_run.specs.Arguments.{HasCells}
use Rattle.bars_run.specs.Commands.{Spelled, input_lines, spelled, each}
use Rattle.bars_run.specs.Player.{Bar, Step, machine, sizing, script_step, script_of, script_outcome, rows_after, any_refused, SizesHaveCells, IsPlain}

-- a board in memory
abbrev pub Played : Type 0
Played = Board NoTracker MemoryTerm

-- an empty terminal of this size
abbrev pub empty_memory : Asked → MemoryTerm
empty_memory asked = record { terminal = blank_terminal asked.size.rows asked.size.columns; faults = 0; moves = [] }

-- a step without its answers
abbrev pub unanswered : Step → Step
unanswered (Called calls answers) = Called calls []
unanswered (Size columns rows) = Size columns rows

-- a step was made, and none of its calls was refused: from each state that the board may have been in, it led to one that it is in now
abbrev pub Makes : Step → Played → Played → Type 0
Makes step old new =
    (s : BoardState Bar) → IsIn 0 old s → (made : Step) × (unanswered made ≡ step) × IsFalse (any_refused (made ∷ []))
    × (next : BoardState Bar) × IsIn 0 new next × Plays machine sizing (made ∷ []) (known view_of old) s (known view_of new) next

-- a command has a step, and that was made
abbrev pub Obeys : Spelled → Played → Played → Type 0
Obeys command old new = (step : Step) × (script_step command ≡ Some step) × Makes step old new

-- these lines were played on a new board, and no call was refused
pub record HasPlayed (asked : Asked) (lines : List (List ℕ)) (b : Played) : Type 0 where
  pub some_rows : 0 < asked.size.rows
  pub some_columns : 0 < asked.size.columns
  pub commands : List Spelled
  pub commands_are : each spelled lines ≡ Some commands
  pub steps : List Step
  pub steps_are : each script_step commands ≡ Some steps
  -- the steps with their answers
  pub made : List Step
  pub made_are : map unanswered made ≡ script_of asked steps
  pub done : IsFalse (any_refused made)
  pub next : BoardState Bar
  pub holds : IsIn 0 b next
  pub plays : Plays machine sizing made (Some (view_of (empty_memory asked))) (opening_board None) (known view_of b) next

-- the rows that stand after the lines of an input were played
pub record Stands (asked : Asked) (input : List ℕ) (texts : List (List ℕ)) : Type 0 where
  pub commands : List Spelled
  pub commands_are : each spelled (input_lines input) ≡ Some commands
  pub steps : List Step
  pub steps_are : each script_step commands ≡ Some steps
  pub cells : HasCells asked.size
  pub sizes : SizesHaveCells steps
  pub done : IsFalse (any_refused (script_outcome asked steps).0)
  pub shown : All IsPlain commands → (blank : ℕ) × (texts ≡ map row_text (rows_after asked steps) ++ replicate blank [])

-- why the line with this number wasn't played
abbrev pub LineEnds : ℕ → List ℕ → Fault → Type 0
LineEnds number line (BadCommand n) = (n ≡ number) × (spelled line ≡ None)
LineEnds number line (Line n refusal) = (n ≡ number) × (command : Spelled) × (spelled line ≡ Some command)
LineEnds number line _ = ⊥
