-- The script of a board for a list of commands, and the rows that stand after it.
use Rattle.std.specs.Prelude.{ℕ, zero, suc, ◌<◌, Bool, true, false, ◌||◌, List, [], ◌∷◌, Option, Some, None, All, codes}
use Rattle.std.specs.List.{list_any}
use Rattle.log.specs.declared.level.Level.TheVariants.{Warn as WarnLevel}
use Rattle.indicatif_text.specs.Columns.{Cell}
use Rattle.indicatif_text.specs.Template.{KeyText, plain_layout}
use Rattle.indicatif_term.specs.Target.{is_bottom}
use Rattle.indicatif_term.specs.Lines.{logged_lines}
use Rattle.indicatif_term.specs.Lists.{all_rows}
use Rattle.indicatif_bar.specs.declared.style.builders.TheConstants.{TICKS}
use Rattle.indicatif_bar.specs.declared.tracker.NoTracker.{NoTracker}
use Rattle.indicatif_bar.specs.Builders.{first_style}
use Rattle.indicatif_bar.specs.Commands as bar
use Rattle.indicatif_bar.specs.Commands.{BarRecord, Command, new_bar}
use Rattle.indicatif_bar.specs.Finishes.{AndLeave, AndClear, Abandon as AbandonFinish}
use Rattle.indicatif_bar.specs.Machines.{Target, Machine}
use Rattle.indicatif_bar.specs.PlainLaws.{IsPlainWithTabs}
use Rattle.indicatif_bar.specs.Scripts as script
use Rattle.indicatif_bar.specs.Scripts.{ScriptPart, Called, Sizing}
use Rattle.indicatif_bar.specs.StyleLaws.{IsPlainText}
use Rattle.indicatif_bar.specs.Trackers.{writes_nothing}
use Rattle.indicatif_board.specs.Boards as on
use Rattle.indicatif_board.specs.Boards.{BoardState, Id, End, New, Call, Answer, Refused, opening_board, board}
use Rattle.indicatif_board.specs.BoardBars.{board_bars}
use Rattle.indicatif_board.specs.Bridge.{bridge_bytes}
use Rattle.indicatif_board.specs.Multi.{board_sizing}
use Rattle.bars_run.specs.declared.arguments.Asked.{Asked}
use Rattle.bars_run.specs.Commands.{Action, Message, Tick, Finish, Hide, Abandon, Drop, Remove, Spelled, Add, Log, Warn, Clear, Resize, OfBar}

-- ---- steps

-- a bar, a call of its board, and a step of a script: one call at the moment 0, or a size
abbrev pub Bar : Type 0
Bar = BarRecord NoTracker

abbrev pub BarCall : Type 0
BarCall = Call Bar (Command NoTracker)

abbrev pub Step : Type 0
Step = ScriptPart BarCall Answer

-- a call without an answer yet
abbrev pub calling : BarCall → Step
calling call = Called ((call, 0) ∷ []) []

-- a bar whose template is `{msg}`, with this message
abbrev pub bar_with_message : List ℕ → Bar
bar_with_message text =
    let made = new_bar (first_style TICKS.now (KeyText (codes "msg") plain_layout ∷ [])) None 0 in
    record made { progress = record made.progress { message = text } }

-- the board's bar with a number, counted from 0
abbrev pub bar_at : ℕ → Id
bar_at number = record { mark = 0; number = number }

-- an action on a bar, as a call
abbrev pub call_on : Id → Action → BarCall
call_on id (Message text) = on.Tell id (bar.SetMessage text)
call_on id Tick = on.Tell id bar.Tick
call_on id Finish = on.Tell id (bar.Finish AndLeave)
call_on id Hide = on.Tell id (bar.Finish AndClear)
call_on id Abandon = on.Tell id (bar.Finish AbandonFinish)
call_on id Drop = on.Drop id
call_on id Remove = on.Remove id

-- the step of a command; none if it names bar 0 or one past 2 ^ 64 - 1, which don't exist
abbrev pub script_step : Spelled → Option Step
script_step (Add text) = Some (calling (on.Insert End (New (bar_with_message text))))
script_step (Log text) = Some (calling (on.Log text))
script_step (Warn text) = Some (calling (on.Log (bridge_bytes WarnLevel text)))
script_step Clear = Some (calling on.Clear)
script_step (Resize size) = Some (script.Size size.columns size.rows)
script_step (OfBar (Some (suc number)) action) = Some (calling (call_on (bar_at number) action))
script_step (OfBar _ action) = None

-- ---- a script

abbrev pub machine : Machine (BoardState Bar) BarCall Answer
machine = board (board_bars writes_nothing) 0

abbrev pub sizing : Sizing machine
sizing = board_sizing writes_nothing 0

-- the terminal at the start
abbrev pub asked_target : Asked → Target
asked_target asked = record { hidden = false; columns = asked.size.columns; rows = asked.size.rows }

-- the steps, after a first one for the alignment
abbrev pub script_of : Asked → List Step → List Step
script_of asked steps = calling (on.Align (is_bottom asked.alignment)) ∷ steps

-- the steps with their answers on a new board if nothing fails, and the board after them
abbrev pub script_outcome : Asked → List Step → List Step × BoardState Bar
script_outcome asked steps = script.played machine sizing (asked_target asked) (script_of asked steps) (opening_board None)

-- whether a call was refused
abbrev pub is_refused : Answer → Bool
is_refused (Refused e) = true
is_refused _ = false

abbrev pub any_refused : List Step → Bool
any_refused [] = false
any_refused (Called calls answers ∷ steps) = list_any is_refused answers || any_refused steps
any_refused (script.Size columns rows ∷ steps) = any_refused steps

-- the terminal has rows and columns after each size among steps
abbrev pub SizesHaveCells : List Step → Type 0
SizesHaveCells [] = Unit {0}
SizesHaveCells (Called calls answers ∷ steps) = SizesHaveCells steps
SizesHaveCells (script.Size columns rows ∷ steps) = (0 < columns) × (0 < rows) × SizesHaveCells steps

-- the number of columns after steps, from the given one
abbrev pub columns_after : ℕ → List Step → ℕ
columns_after w [] = w
columns_after w (Called calls answers ∷ steps) = columns_after w steps
columns_after w (script.Size columns rows ∷ steps) = columns_after columns steps

-- the rows that stand after steps
abbrev pub rows_after : Asked → List Step → List (List Cell)
rows_after asked steps = all_rows (columns_after asked.size.columns steps) (script_outcome asked steps).1.lists

-- ---- texts

-- the texts of a command consist of characters with a width and colour sequences
abbrev pub IsPlainAction : Action → Type 0
IsPlainAction (Message text) = IsPlainWithTabs text
IsPlainAction _ = Unit {0}

abbrev pub IsPlain : Spelled → Type 0
IsPlain (Add text) = IsPlainWithTabs text
IsPlain (Log text) = All IsPlainText (logged_lines text)
IsPlain (Warn text) = All IsPlainText (logged_lines (bridge_bytes WarnLevel text))
IsPlain (OfBar number action) = IsPlainAction action
IsPlain _ = Unit {0}
