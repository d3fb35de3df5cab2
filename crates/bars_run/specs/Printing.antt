-- What `bars run` prints, and why it ends early.
use Rattle.std.specs.Prelude.{◌≡◌, ◌⊎◌, ℕ, suc, ◌-◌, ◌^◌, min, IsFalse, List, [], ◌∷◌, ◌++◌, length, map, flat_map, Option, Some, None, IfSome, All, if◌then◌else◌}
use Rattle.std.specs.List.{list_all}
use Rattle.std.specs.Io.KnownBytes.{Appends}
use Rattle.indicatif_text.specs.declared.refusal.Refusal.TheVariants.{Memory, ZeroSize}
use Rattle.indicatif_term.specs.Pictures.{is_empty, row_text}
use Rattle.bars_run.specs.declared.arguments.Asked.{Asked}
use Rattle.bars_run.specs.declared.fault.Fault.{Fault}
use Rattle.bars_run.specs.declared.fault.Fault.TheVariants.{Usage, BadCommand, Line, Refused, Input, Output}
use Rattle.bars_run.specs.Arguments.{HasCells, asked_by}
use Rattle.bars_run.specs.Commands.{Spelled, input_lines, spelled, each}
use Rattle.bars_run.specs.Player.{Step, script_step, script_outcome, any_refused, SizesHaveCells, rows_after, IsPlain}

-- texts up to the last one that isn't empty
abbrev pub up_to_last : List (List ℕ) → List (List ℕ)
up_to_last [] = []
up_to_last (text ∷ texts) = if list_all is_empty (text ∷ texts) then [] else text ∷ up_to_last texts

-- texts as they are printed: up to the last one that isn't empty, each ended by a newline
abbrev pub printed : List (List ℕ) → List ℕ
printed texts = flat_map (λ text. text ++ 0x0A ∷ []) (up_to_last texts)

-- what these words and this input request was played, and its picture was appended to what a writer got
pub record Prints (words : List (List ℕ)) (input : List ℕ) (old new : Option (List ℕ)) : Type 0 where
  -- the words request this terminal
  pub asked : Asked
  pub asked_is : asked_by words ≡ Some asked
  -- the lines are these commands, with these steps
  pub commands : List Spelled
  pub commands_are : each spelled (input_lines input) ≡ Some commands
  pub steps : List Step
  pub steps_are : each script_step commands ≡ Some steps
  -- the terminal has rows and columns, at first and after each size
  pub cells : HasCells asked.size
  pub sizes : SizesHaveCells steps
  -- and a board on it refuses none of the calls
  pub done : IsFalse (any_refused (script_outcome asked steps).0)
  -- and if all texts are plain, exactly the texts of the rows that stand at the end were printed
  pub shown : All IsPlain commands → Appends old new (printed (map row_text (rows_after asked steps)))

-- ---- a run that ends early

-- an input line with its number, counted from 1, up to 2^64 - 1; the lines before it are commands
pub record IsInputLine (input : List ℕ) (number : ℕ) (line : List ℕ) : Type 0 where
  pub before : List (List ℕ)
  pub behind : List (List ℕ)
  pub lines_are : input_lines input ≡ before ++ line ∷ behind
  pub number_is : number ≡ min (suc (length before)) (2 ^ 64 - 1)
  pub commands : List Spelled
  pub commands_are : each spelled before ≡ Some commands

-- all lines of an input were played on such a terminal, and a board refuses none of the calls
pub record IsPlayed (asked : Asked) (input : List ℕ) : Type 0 where
  pub commands : List Spelled
  pub commands_are : each spelled (input_lines input) ≡ Some commands
  pub steps : List Step
  pub steps_are : each script_step commands ≡ Some steps
  pub done : IsFalse (any_refused (script_outcome asked steps).0)

-- what is known if a run on such a terminal ended with a fault. Whether a read or a write failed, or memory was refused, isn't known
abbrev pub EndsOn : Asked → Option (List ℕ) → Fault → Type 0
EndsOn asked input Usage = ⊥
EndsOn asked input (Refused refusal) = (refusal ≡ Memory) ⊎ ((refusal ≡ ZeroSize) × (HasCells asked.size → ⊥))
EndsOn asked input (BadCommand number) = HasCells asked.size × IfSome input (λ bytes. (line : List ℕ) × IsInputLine bytes number line × (spelled line ≡ None))
EndsOn asked input (Line number refusal) =
    HasCells asked.size × ((refusal ≡ Memory) ⊎ IfSome input (λ bytes. (line : List ℕ) × IsInputLine bytes number line × (command : Spelled) × (spelled line ≡ Some command)))
EndsOn asked input Input = HasCells asked.size
EndsOn asked input Output = HasCells asked.size × IfSome input (λ bytes. IsPlayed asked bytes)

-- what is known if a run of these words ended with a fault: they request nothing, or such a terminal
abbrev pub EndsBy : List (List ℕ) → Option (List ℕ) → Fault → Type 0
EndsBy words input Usage = asked_by words ≡ None
EndsBy words input fault = (asked : Asked) × (asked_by words ≡ Some asked) × EndsOn asked input fault
