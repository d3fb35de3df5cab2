-- Which answers the calls of shared bars and boards can give. Another owner may have called meanwhile, so nothing is known of the state under a lock: the answers depend on the call alone. No other
-- answer comes; not each of these does.
use Rattle.std.specs.Prelude.{◌≡◌, ◌⊎◌, Bool, true, false, IsTrue, ◌||◌, nat_lt, Result, Ok, Err}
use Rattle.indicatif_text.specs.declared.refusal.Refusal.{Refusal}
use Rattle.indicatif_text.specs.declared.refusal.Refusal.TheVariants.{NoColumns, TooWide, Memory, Terminal as Failure, ForeignBar, NotMember, ElapsedBeyondClock}
use Rattle.indicatif_text.specs.declared.refusal.Drawn.{Drawn}
use Rattle.indicatif_text.specs.declared.refusal.Drawn.TheVariants.{Yes, Limited, Hidden}
use Rattle.indicatif_bar.specs.declared.ask.Ask.{Ask}
use Rattle.indicatif_bar.specs.declared.ask.Ask.TheVariants.{No, Unforced, Forced}
use Rattle.indicatif_bar.specs.Commands.{Command, Tick, TickerTick, SetTicker, Inc, Dec, SetPosition, Update, SetLength, UnsetLength, IncLength, DecLength, SetMessage, SetPrefix, SetStyle, WithPosition, WithMessage, WithPrefix, WithFinish, WithTabWidth, SetTabWidth, SetElapsed, ResetEta, ResetElapsed, Reset, Finish, FinishUsingStyle, ForceDraw}
use Rattle.indicatif_bar.specs.Lone.{LoneCall, Obey, Log, Clear}
use Rattle.indicatif_bar.specs.Progress.{Progress}
use Rattle.indicatif_bar.specs.declared.state.commands.Change.{Change}

-- ---- draws

-- an answer without a draw: the call asks for none, or the limiter put it off; or there was no memory for a text or for the history
abbrev pub of_no_draw : Result Drawn Refusal → Bool
of_no_draw (Ok Limited) = true
of_no_draw (Err Memory) = true
of_no_draw _ = false

-- an answer of a draw that wasn't put off: it was written, its target is hidden, or it was refused
abbrev pub of_a_draw : Result Drawn Refusal → Bool
of_a_draw (Ok Yes) = true
of_a_draw (Ok Hidden) = true
of_a_draw (Err NoColumns) = true
of_a_draw (Err TooWide) = true
of_a_draw (Err (Failure kind)) = true
of_a_draw (Err Memory) = true
of_a_draw _ = false

-- an answer of a clear, which lays out no line that could be too wide
abbrev pub of_a_clear : Result Drawn Refusal → Bool
of_a_clear (Err TooWide) = false
of_a_clear answer = of_a_draw answer

-- an answer that a forced draw can give
abbrev pub CanDraw : Result Drawn Refusal → Type 0
CanDraw answer = IsTrue (of_a_draw answer)

-- an answer that a clear can give
abbrev pub CanClear : Result Drawn Refusal → Type 0
CanClear answer = IsTrue (of_a_clear answer)

-- the answers of a call, by what it asks for: no draw; a draw that the limiter may put off; or a forced draw
abbrev pub of_draw : Ask → Result Drawn Refusal → Bool
of_draw No answer = of_no_draw answer
of_draw Unforced answer = of_no_draw answer || of_a_draw answer
of_draw Forced answer = of_a_draw answer

-- ---- bars

-- the draw that a command asks for: one that the limiter may put off, none, or a forced one
abbrev pub asked_by : {K : Type 0} → Command K → Ask
asked_by Tick = Unforced
asked_by TickerTick = Unforced
asked_by (Inc n) = Unforced
asked_by (Dec n) = Unforced
asked_by (SetPosition position) = Unforced
asked_by (Update position len) = Unforced
asked_by (SetLength n) = Unforced
asked_by UnsetLength = Unforced
asked_by (IncLength n) = Unforced
asked_by (DecLength n) = Unforced
asked_by (SetMessage text) = Unforced
asked_by (SetPrefix text) = Unforced
asked_by Reset = Unforced
asked_by (SetTicker installed) = No
asked_by (SetStyle style) = No
asked_by (WithPosition position) = No
asked_by (WithMessage text) = No
asked_by (WithPrefix text) = No
asked_by (WithFinish by) = No
asked_by (WithTabWidth tab) = No
asked_by (SetElapsed nanos) = No
asked_by ResetEta = No
asked_by ResetElapsed = No
asked_by (SetTabWidth tab) = Forced
asked_by (Finish by) = Forced
asked_by FinishUsingStyle = Forced
asked_by ForceDraw = Forced

-- a command's own refusal: an elapsed time beyond the clock, which 0 never is
abbrev pub is_late : {K : Type 0} → Command K → Result Drawn Refusal → Bool
is_late (SetElapsed nanos) (Err ElapsedBeyondClock) = nat_lt 0 nanos
is_late _ _ = false

-- the board hasn't the bar
abbrev pub has_no_bar : Result Drawn Refusal → Bool
has_no_bar (Err ForeignBar) = true
has_no_bar (Err NotMember) = true
has_no_bar _ = false

-- an answer of a bar's call, wherever the bar stands
abbrev pub bar_answers : {K : Type 0} → LoneCall (Command K) → Result Drawn Refusal → Bool
bar_answers (Obey command) answer = of_draw (asked_by command) answer || (is_late command answer || has_no_bar answer)
bar_answers (Log text) answer = of_a_draw answer || has_no_bar answer
bar_answers Clear answer = of_a_clear answer

-- an answer that a bar's call can give, wherever the bar stands
unfoldable pub CanAnswer : (K : Type 0) → LoneCall (Command K) → Result Drawn Refusal → Type 0
CanAnswer K call answer = IsTrue (bar_answers call answer)

-- an answer that an update can give: its closure was shown some state and returned a change by `R`, and the answer is one of a command that makes a change, whichever it is; or the closure wasn't
-- called, since the board hasn't the bar
abbrev pub CanUpdate : (K : Type 0) → (Progress → Change → Type 0) → Result Drawn Refusal → Type 0
CanUpdate K R answer =
    ((shown : Progress) × (change : Change) × R shown change × CanAnswer K (Obey (Update change.pos change.len)) answer) ⊎ IsTrue (has_no_bar answer)

-- an answer that a bar can give when it gets another target: it stood alone, and nothing was drawn; or a forced draw showed the others of its board; or it keeps its place
unfoldable pub CanTurn : Result Drawn Refusal → Type 0
CanTurn answer = IsTrue (of_no_draw answer || (of_a_draw answer || has_no_bar answer))

-- an answer that a bar can give when it moves from its target to another one: it was cleared; or a forced draw showed the others of its board; or it keeps its place
unfoldable pub CanMove : Result Drawn Refusal → Type 0
CanMove answer = IsTrue (of_a_draw answer || has_no_bar answer)

-- why a bar's text can't be read, or a bar isn't inserted: there is no memory, or the board hasn't the bar
abbrev pub IsMissing : Refusal → Type 0
IsMissing e = (e ≡ Memory) ⊎ (e ≡ ForeignBar) ⊎ (e ≡ NotMember)

-- why a bar isn't inserted at a place that names no other bar, or isn't removed: there is no memory, or it is another board's bar
abbrev pub MemoryOrForeign : Refusal → Type 0
MemoryOrForeign e = (e ≡ Memory) ⊎ (e ≡ ForeignBar)
