-- How often a run draws if its machine has a limiter.
use Rattle.std.specs.Prelude.{◌≡◌, ℕ, ◌+◌, ◌-◌, ◌*◌, ◌/◌, ◌<◌, ◌≤◌, Bool, true, false, ◌&&◌, List, [], ◌∷◌, length, Option, Some, None, Result, Ok, if◌then◌else◌}
use Rattle.std.specs.List.{last_or}
use Rattle.indicatif_text.specs.declared.refusal.Refusal.{Refusal}
use Rattle.indicatif_text.specs.declared.refusal.Drawn.{Drawn}
use Rattle.indicatif_text.specs.declared.refusal.Drawn.TheVariants.{Yes}
use Rattle.indicatif_term.specs.Calls.{TermView}
use Rattle.indicatif_term.specs.Limiters.{Limiter, burst, draw_limiter}
use Rattle.indicatif_bar.specs.declared.ask.Ask.{Ask}
use Rattle.indicatif_bar.specs.declared.ask.Ask.TheVariants.{No, Unforced, Forced}
use Rattle.indicatif_bar.specs.Machines.{Target, Machine, Draw, Deed, AtOnce, Draws}
use Rattle.indicatif_bar.specs.Kinds.{asked_of}
use Rattle.indicatif_bar.specs.Runs.{Runs, deed_on}

-- ---- machines with a limiter

-- a draw asks the limiter once, as its lines are stored, and nothing else changes the limiter; its answer decides
pub record AsksLimiter {State : Type 0} (limiter : State → Option Limiter) (now : ℕ) (s : State) (d : Draw State) : Type 0 where
  pub before : limiter d.after_command ≡ limiter s
  pub decides : d.allowed ≡ (asked_of d.ask now (limiter s)).0
  pub asked : limiter d.ready ≡ (asked_of d.ask now (limiter s)).1
  pub written : limiter d.written ≡ limiter d.ready
  pub broken : limiter d.broken ≡ limiter d.ready

-- a call's draw asks the limiter so; a call that answers at once doesn't ask it
abbrev pub DeedAsks : {State Answer : Type 0} → (State → Option Limiter) → ℕ → State → Deed State Answer → Type 0
DeedAsks limiter now s (AtOnce takes answer next) = limiter next ≡ limiter s
DeedAsks {State} limiter now s (Draws d ends breaks) = AsksLimiter limiter now s d × ((x : State) → limiter (ends x) ≡ limiter x) × ((x : State) → limiter (breaks x) ≡ limiter x)

-- a machine whose states have a limiter
abbrev pub IsLimited : {State Call Answer : Type 0} → Machine State Call Answer → (State → Option Limiter) → Type 0
IsLimited {State} {Call} m limiter = (target : Target) (call : Call) (now : ℕ) (s : State) → DeedAsks limiter now s (m.deed target call now s)

-- the state of a limiter after the given number of unforced draws: each took one in hand, or one of the intervals since
pub record Spent (l l' : Limiter) (draws : ℕ) : Type 0 where
  pub interval : l'.interval ≡ l.interval
  pub goes_on : l.prev ≤ l'.prev
  pub paid : draws * l.interval + l'.capacity * l.interval ≤ l.capacity * l.interval + (l'.prev - l.prev)

-- the spendings of two runs, one after the other, add up
abbrev pub SpendingsAddUp : Type 0
SpendingsAddUp = (l k l' : Limiter) (n m : ℕ) → Spent l k n → Spent k l' m → Spent l l' (n + m)

-- ---- unforced draws

-- whether the call wants an unforced draw
abbrev pub is_unforced : Ask → Bool
is_unforced Unforced = true
is_unforced No = false
is_unforced Forced = false

-- whether a draw was made
abbrev pub is_yes : Result Drawn Refusal → Bool
is_yes (Ok Yes) = true
is_yes _ = false

-- whether a call with this answer made an unforced draw
abbrev pub drew_unforced : {State Answer : Type 0} → Deed State Answer → Result Drawn Refusal → Bool
drew_unforced (AtOnce takes answer next) said = false
drew_unforced (Draws d ends breaks) said = is_unforced d.ask && is_yes said

module _ {State Call Answer : Type 0} (m : Machine State Call Answer) where
  -- the moments of the unforced draws that a run made
  abbrev pub unforced_draws : (calls : List (Call × ℕ)) (answers : List Answer) (old : Option TermView) (s : State) (new : Option TermView) (next : State) → Runs m calls answers old s new next →
      List ℕ
  unforced_draws (call ∷ calls) (answer ∷ answers) old s new next run =
      let others = unforced_draws calls answers run.0 run.1 new next run.3 in
      if drew_unforced (deed_on m old call s) (m.tells answer) then call.1 ∷ others else others
  unforced_draws _ _ old s new next run = []

  -- from a new rate limiter, a run makes at most 20 unforced draws, and one more for each interval from its start to the last of them
  abbrev pub RunsAreBounded : (State → Option Limiter) → Type 0
  RunsAreBounded limiter =
      (rate making : ℕ) → 0 < rate → rate < 256 → (calls : List (Call × ℕ)) (answers : List Answer) (old : Option TermView) (s : State) (new : Option TermView) (next : State)
      (run : Runs m calls answers old s new next) → limiter s ≡ Some (draw_limiter rate making) →
      let moments = unforced_draws calls answers old s new next run in
      (last : ℕ) → last_or None moments ≡ Some last → length moments ≤ burst + (last - making) / (draw_limiter rate making).interval

  -- from any state of a limiter, each unforced draw of a run takes one in hand, or one of the intervals from its moment to the last draw
  abbrev pub RunsAreBoundedFrom : (State → Option Limiter) → Type 0
  RunsAreBoundedFrom limiter =
      (l : Limiter) → 0 < l.interval → (calls : List (Call × ℕ)) (answers : List Answer) (old : Option TermView) (s : State) (new : Option TermView) (next : State)
      (run : Runs m calls answers old s new next) → limiter s ≡ Some l →
      let moments = unforced_draws calls answers old s new next run in
      (last : ℕ) → last_or None moments ≡ Some last → (l.prev ≤ last) × (length moments * l.interval ≤ l.capacity * l.interval + (last - l.prev))

  -- from any state of a limiter, the limiter at a run's end has spent the run's unforced draws: so the spendings of two runs add up
  abbrev pub RunsSpend : (State → Option Limiter) → Type 0
  RunsSpend limiter =
      (l : Limiter) → 0 < l.interval → (calls : List (Call × ℕ)) (answers : List Answer) (old : Option TermView) (s : State) (new : Option TermView) (next : State)
      (run : Runs m calls answers old s new next) → limiter s ≡ Some l →
      (l' : Limiter) × (limiter next ≡ Some l') × Spent l l' (length (unforced_draws calls answers old s new next run))
