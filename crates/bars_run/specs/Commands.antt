-- The command of an input line. Texts are lists of bytes.
use Rattle.std.specs.Prelude.{ℕ, ◌^◌, Bool, ◌==◌, List, [], ◌∷◌, Option, Some, None, option_map, if◌then◌else◌, codes, bytes_eq}
use Rattle.std.specs.List.{before_first, after_first}
use Rattle.std.specs.Str.{is_utf8}
use Rattle.bars_run.specs.Arguments.{is_number, number_below, size_spelled}
use Rattle.bars_run.specs.declared.arguments.Size.{Size}
use Rattle.bars_run.specs.declared.commands.BarAction.{BarAction}
use Rattle.bars_run.specs.declared.commands.BarAction.TheVariants as told
use Rattle.bars_run.specs.declared.commands.Command.{Command}
use Rattle.bars_run.specs.declared.commands.Command.TheVariants as given

-- ---- commands

-- an action on a bar
pub data Action : Type 0 where
  Message : (text : List ℕ) → Action
  Tick : Action
  Finish : Action
  -- finishes and hides it
  Hide : Action
  Abandon : Action
  Drop : Action
  Remove : Action

-- a command; a bar is named by its number, none if that is past 2 ^ 64 - 1
pub data Spelled : Type 0 where
  Add : (text : List ℕ) → Spelled
  Log : (text : List ℕ) → Spelled
  Warn : (text : List ℕ) → Spelled
  Clear : Spelled
  -- gives the terminal another size
  Resize : (size : Size) → Spelled
  OfBar : (number : Option ℕ) → (action : Action) → Spelled

-- ---- lines

-- a byte added at the front of the first line
abbrev pub with_first : ℕ → List (List ℕ) → List (List ℕ)
with_first b [] = (b ∷ []) ∷ []
with_first b (line ∷ lines) = (b ∷ line) ∷ lines

-- the lines of bytes, without the newlines that end them; the last may lack its own
abbrev pub input_lines : List ℕ → List (List ℕ)
input_lines [] = []
input_lines (b ∷ bytes) = if b == 0x0A then [] ∷ input_lines bytes else with_first b (input_lines bytes)

abbrev pub is_space : ℕ → Bool
is_space b = b == 0x20

-- the word before the first space, and the text after it; a text without a space is all word
abbrev pub word_of : List ℕ → List ℕ
word_of text = before_first is_space text

abbrev pub rest_of : List ℕ → List ℕ
rest_of text = after_first is_space text

-- the action of a word without a text
abbrev pub action_named : List ℕ → Option Action
action_named word =
    if bytes_eq word (codes "tick") then Some Tick
    else if bytes_eq word (codes "finish") then Some Finish
    else if bytes_eq word (codes "abandon") then Some Abandon
    else if bytes_eq word (codes "hide") then Some Hide
    else if bytes_eq word (codes "drop") then Some Drop
    else if bytes_eq word (codes "remove") then Some Remove
    else None

-- an action on the bar with a number
abbrev pub on_bar : List ℕ → Option Action → Option Spelled
on_bar digits None = None
on_bar digits (Some action) = if is_number digits then Some (OfBar (number_below (2 ^ 64) digits) action) else None

-- the command of a word, with the text after it
abbrev pub worded : List ℕ → List ℕ → Option Spelled
worded word rest =
    if bytes_eq word (codes "add") then Some (Add rest)
    else if bytes_eq word (codes "log") then Some (Log rest)
    else if bytes_eq word (codes "warn") then Some (Warn rest)
    else if bytes_eq word (codes "size") then option_map Resize (size_spelled (word_of rest) (rest_of rest))
    else if bytes_eq word (codes "msg") then on_bar (word_of rest) (Some (Message (rest_of rest)))
    else on_bar rest (action_named word)

-- the command of a text; none if it isn't one
abbrev pub spelled_text : List ℕ → Option Spelled
spelled_text text = if bytes_eq text (codes "clear") then Some Clear else worded (word_of text) (rest_of text)

-- the command of a line; none if it isn't one, or isn't UTF-8
abbrev pub spelled : List ℕ → Option Spelled
spelled line = if is_utf8 line then spelled_text line else None

-- ---- lists

-- one more, if there is one
abbrev pub and_then : {Y : Type 0} → Option Y → Option (List Y) → Option (List Y)
and_then (Some y) (Some ys) = Some (y ∷ ys)
and_then _ _ = None

-- the values of a list, one by one; none if one of them has none
abbrev pub each : {X Y : Type 0} → (X → Option Y) → List X → Option (List Y)
each f [] = Some []
each f (x ∷ xs) = and_then (f x) (each f xs)

-- ---- values

-- an action that is a value, and a command, as its definition
abbrev pub action_of : BarAction → Action
action_of (told.Message text) = Message text.now
action_of told.Tick = Tick
action_of told.Finish = Finish
action_of told.Hide = Hide
action_of told.Abandon = Abandon
action_of told.Drop = Drop
action_of told.Remove = Remove

abbrev pub command_of : Command → Spelled
command_of (given.Add text) = Add text.now
command_of (given.Log text) = Log text.now
command_of (given.Warn text) = Warn text.now
command_of given.Clear = Clear
command_of (given.Size size) = Resize size
command_of (given.Bar number action) = OfBar number (action_of action)
