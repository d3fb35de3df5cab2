-- What contracts see of a lone bar: its record, its terminal, whether it is in a given state, and what a call leads to.
use Rattle.std.specs.declared.string.String.{String}
use Rattle.std.specs.declared.alloc.Global.{Global}
use Rattle.std.specs.Prelude.{◌≡◌, ◌⊎◌, ℕ, Bool, IsTrue, IsFalse, string_bytes, Option, option_map, List, [], ◌∷◌, Result, Ok, Err, refl}
use Rattle.indicatif_text.specs.declared.refusal.Refusal.{Refusal}
use Rattle.indicatif_text.specs.declared.refusal.Refusal.TheVariants.{Memory, ElapsedBeyondClock}
use Rattle.indicatif_text.specs.declared.refusal.Drawn.{Drawn}
use Rattle.indicatif_term.specs.Calls.{TermView}
use Rattle.indicatif_term.specs.Engines.{engine_moves, engine_term}
use Rattle.indicatif_bar.specs.Trackers.{Tracking}
use Rattle.indicatif_bar.specs.Commands.{BarRecord, Command, ForceDraw, obeyed, command_as, is_beyond_clock, takes_memory}
use Rattle.indicatif_bar.specs.Bars.{bar_kind}
use Rattle.indicatif_bar.specs.Machines.{Machine, target_of}
use Rattle.indicatif_bar.specs.Runs.{CallMade, Runs, wrote}
use Rattle.indicatif_bar.specs.Lone.{LoneState, LoneCall, Obey, Log, Clear, lone}
use Rattle.indicatif_bar.specs.Scripts.{Sizing}
use Rattle.indicatif_bar.specs.Stages.{IsStaged}
use Rattle.indicatif_bar.specs.declared.lone.LoneBar.{LoneBar}
use Rattle.indicatif_bar.specs.declared.lone.LoneCall.{LoneCall as LoneCallValue}
use Rattle.indicatif_bar.specs.declared.lone.LoneCall.TheVariants.{Bar as BarCall, Log as LogCall, Clear as ClearCall}

module _ {K T : Type 0} where
  -- its record
  abbrev pub record_of : LoneBar K T → BarRecord K
  record_of b = b.shown.bar

  -- its terminal; none if the target is hidden
  abbrev pub lone_terminal : LoneBar K T → Option T
  lone_terminal b = option_map engine_term b.stage.engine

  -- whether its draws use cursor moves alone, if that shows the same; nothing if the target is hidden
  abbrev pub lone_moves : LoneBar K T → Option Bool
  lone_moves b = option_map engine_moves b.stage.engine

  -- the bar may be in this state. Only the numbers of the rows are kept, so many states fit one bar; clauses hold of each
  unfoldable pub LoneIsIn : LoneBar K T → LoneState (BarRecord K) → Type 0
  LoneIsIn b s = (b.shown.bar ≡ s.bar) × IsStaged b.stage s.limiter s.lists

  -- what is known of its terminal
  abbrev pub lone_known : (T → TermView) → LoneBar K T → Option TermView
  lone_known view b = option_map view (lone_terminal b)

  -- its draws write nothing: its target is hidden, or a terminal without columns
  abbrev pub LoneIsNowhere : (T → TermView) → LoneBar K T → Type 0
  LoneIsNowhere view b = (target_of (lone_known view b)).columns ≡ 0

-- a lone bar with this meaning of its trackers
abbrev pub lone_bar : {K : Type 0} → Tracking K → Machine (LoneState (BarRecord K)) (LoneCall (Command K)) (Result Drawn Refusal)
lone_bar m = lone (bar_kind m)

-- a lone bar whose terminal gets another size
abbrev pub lone_sizing : {K : Type 0} → (m : Tracking K) → Sizing (lone_bar m)
lone_sizing m = record { put = λ l s. record s { lists = l }; lists_are = λ l s. refl }

-- a command is refused: there is no memory for its text, or its elapsed time is beyond the moment
abbrev pub RefusesCommand : {K : Type 0} → Command K → BarRecord K → ℕ → Refusal → Type 0
RefusesCommand command bar now e = ((e ≡ Memory) × IsTrue (takes_memory command bar)) ⊎ ((e ≡ ElapsedBeyondClock) × IsTrue (is_beyond_clock command now))

-- a bar refused a command, and nothing has changed
abbrev pub Disobeys : {K T : Type 0} → LoneBar K T → LoneBar K T → Command K → ℕ → Result Drawn Refusal → Type 0
Disobeys old new command now answer = (e : Refusal) × (answer ≡ Err e) × RefusesCommand command (record_of old) now e × (new ≡ old)

module _ {K T : Type 0} (m : Tracking K) (view : T → TermView) (old new : LoneBar K T) where
  -- for each state that the bar may have been in, there is one that it is in now, and the call led from one to the other with this answer
  abbrev pub LoneLeadsBy : LoneCall (Command K) → ℕ → Result Drawn Refusal → Type 0
  LoneLeadsBy call now answer =
      (s : LoneState (BarRecord K)) → LoneIsIn old s →
      (next : LoneState (BarRecord K)) × LoneIsIn new next × CallMade (lone_bar m) (lone_known view old) (lone_known view new) (call, now) s answer next

  -- a bar was suspended: it was cleared and drawn again by a forced draw; or the clear was refused, and nothing drawn
  abbrev pub LoneSuspends : ℕ → Result Drawn Refusal → Type 0
  LoneSuspends now answer =
      (s : LoneState (BarRecord K)) → LoneIsIn old s → (next : LoneState (BarRecord K)) × LoneIsIn new next
      × (((cleared : Drawn) × Runs (lone_bar m) ((Clear, now) ∷ (Obey ForceDraw, now) ∷ []) (Ok cleared ∷ answer ∷ []) (lone_known view old) s (lone_known view new) next)
      ⊎ ((e : Refusal) × (answer ≡ Err e) × Runs (lone_bar m) ((Clear, now) ∷ []) (Err e ∷ []) (lone_known view old) s (lone_known view new) next))

  -- a bar that obeyed a command with this answer
  pub record Obeys (command : Command K) (now : ℕ) (answer : Result Drawn Refusal) : Type 0 where
    -- its record changes as the command says
    pub bar : record_of new ≡ (obeyed m command (record_of old) now).0
    -- if nothing was written, the terminal is unchanged; on a hidden target or without columns nothing was written
    pub silent : IsFalse (wrote answer) → lone_terminal new ≡ lone_terminal old
    pub nowhere : LoneIsNowhere view old → IsFalse (wrote answer)
    -- the setting of cursor moves is unchanged
    pub moves : lone_moves new ≡ lone_moves old
    -- its step
    pub leads : LoneLeadsBy (Obey command) now answer

  -- a bar that obeyed a command, or refused it
  pub record ObeysOrNot (command : Command K) (now : ℕ) (answer : Result Drawn Refusal) : Type 0 where
    pub bar : (record_of new ≡ (obeyed m command (record_of old) now).0) ⊎ Disobeys old new command now answer
    pub silent : IsFalse (wrote answer) → lone_terminal new ≡ lone_terminal old
    pub nowhere : LoneIsNowhere view old → IsFalse (wrote answer)
    pub moves : lone_moves new ≡ lone_moves old
    pub leads : LoneLeadsBy (Obey command) now answer

-- how a call with this answer changes the bar: as its command says, if that wasn't refused; otherwise not
abbrev pub CallDone : {K T : Type 0} → Tracking K → LoneBar K T → LoneBar K T → LoneCall (Command K) → ℕ → Result Drawn Refusal → Type 0
CallDone m old new (Obey command) now answer = (record_of new ≡ (obeyed m command (record_of old) now).0) ⊎ Disobeys old new command now answer
CallDone m old new _ now answer = record_of new ≡ record_of old

-- how a call with this answer changes a record: as its command says, if that wasn't refused; otherwise not
abbrev pub RecordGoes : {K : Type 0} → Tracking K → LoneCall (Command K) → ℕ → Result Drawn Refusal → BarRecord K → BarRecord K → Type 0
RecordGoes m (Obey command) now answer bar bar' =
    (bar' ≡ (obeyed m command bar now).0) ⊎ ((e : Refusal) × (answer ≡ Err e) × RefusesCommand command bar now e × (bar' ≡ bar))
RecordGoes m _ now answer bar bar' = bar' ≡ bar

-- how calls at their moments, one after another, each with an answer, change a record
abbrev pub RecordsGo : {K : Type 0} → Tracking K → List (LoneCall (Command K) × ℕ) → List (Result Drawn Refusal) → BarRecord K → BarRecord K → Type 0
RecordsGo m [] [] bar bar' = bar' ≡ bar
RecordsGo {K} m (call ∷ calls) (answer ∷ answers) bar bar' = (x : BarRecord K) × RecordGoes m call.0 call.1 answer bar x × RecordsGo m calls answers x bar'
RecordsGo m _ _ bar bar' = ⊥

-- the call that a value stands for, by the bytes of its text
abbrev pub lone_call_as : {K S : Type 0} → (S → List ℕ) → LoneCallValue K S → LoneCall (Command K)
lone_call_as bytes (BarCall command) = Obey (command_as bytes command)
lone_call_as bytes (LogCall text) = Log (bytes text)
lone_call_as bytes ClearCall = Clear

-- the command that a value with its own text stands for
abbrev pub lone_call_of : {K : Type 0} → LoneCallValue K (String Global) → LoneCall (Command K)
lone_call_of call = lone_call_as string_bytes call

-- the call that a value with its own text and its moment stands for
abbrev pub lone_timed : {K : Type 0} → LoneCallValue K (String Global) × ℕ → LoneCall (Command K) × ℕ
lone_timed c = (lone_call_as string_bytes c.0, c.1)
