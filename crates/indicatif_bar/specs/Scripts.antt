-- Scripts, of anything that draws: runs of calls, with changes of the terminal's size between them; what they leave on the terminal.
use Rattle.std.specs.Prelude.{◌≡◌, ℕ, ◌+◌, ◌-◌, ◌*◌, ◌/◌, ◌<◌, ◌≤◌, Bool, true, false, ◌||◌, ◌&&◌, ◌==◌, IsTrue, IsFalse, List, [], ◌∷◌, ◌++◌, length, take, Option, Some, None, MatchOption, if◌then◌else◌}
use Rattle.std.specs.List.{All, list_any, last_or}
use Rattle.indicatif_text.specs.Columns.{Cell}
use Rattle.indicatif_term.specs.Screen.{Screen}
use Rattle.indicatif_term.specs.Terminal.{Terminal, after}
use Rattle.indicatif_term.specs.Calls.{TermView, is_told}
use Rattle.indicatif_term.specs.Calm.{Calmly}
use Rattle.indicatif_term.specs.Lists.{Lists, forgotten_lists, all_rows}
use Rattle.indicatif_term.specs.Limiters.{Limiter, burst, draw_limiter}
use Rattle.indicatif_term.specs.Shows.{Rests, Placed, safe_rows}
use Rattle.indicatif_term.specs.Resizes.{resized, resized_terminal, resized_lists, recut_all, has_size, Resized}
use Rattle.indicatif_term.specs.Events.{Event, Given, Sized, terminal_after, told_after, rows_then, RowsLastThrough}
use Rattle.indicatif_bar.specs.Machines.{Target, target_of, On, Machine, outcomes}
use Rattle.indicatif_bar.specs.Runs.{Runs, AllPlain, broke, IsLedOn, RowsLast, ReadsAs, Starts, is_undisturbed}
use Rattle.indicatif_bar.specs.Bounds.{Spent, unforced_draws}

-- ---- a size

-- a target that gets w columns and h rows; a hidden one stays hidden
abbrev pub sized_target : ℕ → ℕ → Target → Target
sized_target w h target = if target.hidden then target else record { hidden = false; columns = w; rows = h }

-- the lists on it; those of a hidden one stay
abbrev pub sized_lists : ℕ → ℕ → Target → Lists → Lists
sized_lists w h target l = if target.hidden then l else resized_lists target.columns target.rows w h l

-- how a target changes with a size, by its views
abbrev pub SizedOn : ℕ → ℕ → Option TermView → Option TermView → Type 0
SizedOn w h old new = On old new (λ v v'. Resized w h v v')

-- this is another size than that of a target with this view; a hidden one has none
abbrev pub IsAnotherSize : ℕ → ℕ → Option TermView → Type 0
IsAnotherSize w h old = MatchOption old ⊥ (λ v. IsFalse (has_size w h v))

-- a machine's state with other lists in place of its own
pub record Sizing {State Call Answer : Type 0} (m : Machine State Call Answer) : Type 0 where
  pub put : Lists → State → State
  pub lists_are : (l : Lists) (s : State) → m.lists (put l s) ≡ l

-- ---- a script

-- a part of a script: calls with their moments and answers; or a size
pub data ScriptPart (Call Answer : Type 0) : Type 0 where
  Called : (calls : List (Call × ℕ)) → (answers : List Answer) → ScriptPart Call Answer
  Size : (columns rows : ℕ) → ScriptPart Call Answer

-- an opening after a script: only sizes change it
abbrev pub opening_then : {Call Answer : Type 0} → List (ScriptPart Call Answer) → Screen → Screen
opening_then [] s = s
opening_then (Called calls answers ∷ parts) s = opening_then parts s
opening_then (Size w h ∷ parts) s = opening_then parts (resized w h s)

-- rows on a terminal of w columns and h rows that gets another size: each is wrapped; its own size changes nothing
abbrev pub rows_sized : ℕ → ℕ → ℕ → ℕ → List (List Cell) → List (List Cell)
rows_sized w h w' h' rows = if (w == w') && (h == h') then rows else recut_all w' rows

-- rows after a script on a terminal of w columns and h rows: only sizes change them
abbrev pub rows_cut : {Call Answer : Type 0} → List (ScriptPart Call Answer) → ℕ → ℕ → List (List Cell) → List (List Cell)
rows_cut [] w h rows = rows
rows_cut (Called calls answers ∷ parts) w h rows = rows_cut parts w h rows
rows_cut (Size w' h' ∷ parts) w h rows = rows_cut parts w' h' (rows_sized w h w' h' rows)

-- as a size comes, the rows are known; or a call was broken off before, they are forgotten, and nothing was drawn since
abbrev pub MaySize : Bool → Lists → Type 0
MaySize false l = IsFalse l.failed
MaySize true l = l ≡ forgotten_lists

-- the bytes of events, one after another
abbrev pub bytes_given : List Event → List ℕ
bytes_given [] = []
bytes_given (Given bytes ∷ events) = bytes ++ bytes_given events
bytes_given (Sized w h ∷ events) = bytes_given events

module _ {State Call Answer : Type 0} (m : Machine State Call Answer) (z : Sizing m) where
  -- the state after a size
  abbrev pub sized : ℕ → ℕ → Target → State → State
  sized w h target s = z.put (sized_lists w h target (m.lists s)) s

  -- one part after another
  abbrev pub Plays : List (ScriptPart Call Answer) → Option TermView → State → Option TermView → State → Type 0
  Plays [] old s new next = (new ≡ old) × (next ≡ s)
  Plays (Called calls answers ∷ parts) old s new next =
      (v : Option TermView) × (x : State) × Runs m calls answers old s v x × Plays parts v x new next
  Plays (Size w h ∷ parts) old s new next =
      (v : Option TermView) × SizedOn w h old v × (0 < w) × (0 < h) × Plays parts v (sized w h (target_of old) s) new next

  -- whether the terminal broke off a call
  abbrev pub script_broke : List (ScriptPart Call Answer) → Bool
  script_broke [] = false
  script_broke (Called calls answers ∷ parts) = list_any (broke m) answers || script_broke parts
  script_broke (Size w h ∷ parts) = script_broke parts

  -- the lines that were written are of characters with a width and colour sequences
  abbrev pub AllRunsPlain : (parts : List (ScriptPart Call Answer)) (old : Option TermView) (s : State) (new : Option TermView) (next : State) → Plays parts old s new next → Type 0
  AllRunsPlain [] old s new next plays = Unit {0}
  AllRunsPlain (Called calls answers ∷ parts) old s new next plays =
      AllPlain m calls answers old s plays.0 plays.1 plays.2 × AllRunsPlain parts plays.0 plays.1 new next plays.3
  AllRunsPlain (Size w h ∷ parts) old s new next plays = AllRunsPlain parts plays.0 (sized w h (target_of old) s) new next plays.4

  -- each size comes where the rows are known, or forgotten; a call may have been broken off before the script
  abbrev pub AllSizesKnown : Bool → (parts : List (ScriptPart Call Answer)) (old : Option TermView) (s : State) (new : Option TermView) (next : State) → Plays parts old s new next → Type 0
  AllSizesKnown broken [] old s new next plays = Unit {0}
  AllSizesKnown broken (Called calls answers ∷ parts) old s new next plays =
      AllSizesKnown (broken || list_any (broke m) answers) parts plays.0 plays.1 new next plays.3
  AllSizesKnown broken (Size w h ∷ parts) old s new next plays =
      MaySize broken (m.lists s) × AllSizesKnown broken parts plays.0 (sized w h (target_of old) s) new next plays.4

  -- ---- what it leaves

  -- one event for each part, in order: the bytes by which its calls led the terminal on, or its size
  abbrev pub GoesBy : (parts : List (ScriptPart Call Answer)) (old : Option TermView) (s : State) (new : Option TermView) (next : State) → Plays parts old s new next → List Event → Type 0
  GoesBy [] old s new next plays events = events ≡ []
  GoesBy (Called calls answers ∷ parts) old s new next plays events =
      (bytes : List ℕ) × (others : List Event) × (events ≡ Given bytes ∷ others) × IsLedOn old plays.0 bytes × GoesBy parts plays.0 plays.1 new next plays.3 others
  GoesBy (Size w h ∷ parts) old s new next plays events =
      (others : List Event) × (events ≡ Sized w h ∷ others) × GoesBy parts plays.0 (sized w h (target_of old) s) new next plays.4 others

  -- the rows of a terminal that are safe at the script's start last to its end. The law on runs holds of each of its runs; no size leaves fewer rows safe; and the rows that are safe after a run or a
  -- size last from there on
  abbrev pub RowsLastIn : (parts : List (ScriptPart Call Answer)) (old : Option TermView) (s : State) (new : Option TermView) (next : State) → Plays parts old s new next →
      Terminal → List Event → Type 0
  RowsLastIn [] old s new next plays t events = events ≡ []
  RowsLastIn (Called calls answers ∷ parts) old s new next plays t events =
      RowsLastThrough (safe_rows (m.lists s) t) t events × (bytes : List ℕ) × (others : List Event) × (events ≡ Given bytes ∷ others)
      × RowsLast m calls answers old s plays.0 plays.1 plays.2 t bytes × RowsLastIn parts plays.0 plays.1 new next plays.3 (after t bytes) others
  RowsLastIn (Size w h ∷ parts) old s new next plays t events =
      let x = sized w h (target_of old) s in
      let n = safe_rows (m.lists s) t in
      RowsLastThrough n t events × (others : List Event) × (events ≡ Sized w h ∷ others)
      × (length (rows_then w h n t.screen) ≤ safe_rows (m.lists x) (resized_terminal w h t)) × RowsLastIn parts plays.0 x new next plays.4 (resized_terminal w h t) others

  -- these events, one for each part, led from the first view to the second. On a terminal that rests with the lists of the start after an opening, the rows that are safe last (the untouched ones and
  -- those above), and so do those that are safe later. Unless a call was broken off, it rests at the end with the lists of the end, after the opening with the sizes, and rows above were wrapped by
  -- the sizes, and only added. In any case the bytes are those of draws
  pub record Carries (parts : List (ScriptPart Call Answer)) (v v' : TermView) (s : State) (new : Option TermView) (next : State) (plays : Plays parts (Some v) s new next) : Type 0 where
    pub events : List Event
    pub told_is : IsTrue (is_told v.told) → v'.told ≡ told_after v.told events
    pub goes_by : GoesBy parts (Some v) s new next plays events
    pub lasts : (opening : Screen) (t : Terminal) → Rests v.columns v.rows opening (m.lists s) t → RowsLastIn parts (Some v) s new next plays t events
    pub rests : IsFalse (script_broke parts) → (opening : Screen) (t : Terminal) → Rests v.columns v.rows opening (m.lists s) t →
        Rests v'.columns v'.rows (opening_then parts opening) (m.lists next) (terminal_after t events)
    pub added : IsFalse (script_broke parts) → (rows : List (List Cell)) × ((m.lists next).above ≡ rows_cut parts v.columns v.rows (m.lists s).above ++ rows)
    pub drawings : Calmly (m.lists s).failed (bytes_given events) (m.lists next).failed

  -- the headline of scripts
  abbrev pub ScriptsCarry : Type 0
  ScriptsCarry =
      (parts : List (ScriptPart Call Answer)) (v : TermView) (s : State) (new : Option TermView) (next : State) (plays : Plays parts (Some v) s new next) →
      0 < v.columns → IsFalse (m.lists s).failed → AllRunsPlain parts (Some v) s new next plays → AllSizesKnown false parts (Some v) s new next plays →
      (v' : TermView) × (new ≡ Some v') × Carries parts v v' s new next plays

  -- a script that begins after a failure, wherever the terminal broke off: the bytes are those of draws, the rows of any terminal with a place that are safe last, and so do those that are safe later.
  -- Each size comes while nothing was drawn since the last failure
  abbrev pub SafeRowsLast : Type 0
  SafeRowsLast =
      (parts : List (ScriptPart Call Answer)) (v : TermView) (s : State) (new : Option TermView) (next : State) (plays : Plays parts (Some v) s new next) →
      0 < v.columns → AllRunsPlain parts (Some v) s new next plays → AllSizesKnown true parts (Some v) s new next plays →
      (v' : TermView) × (new ≡ Some v') × (events : List Event) × (IsTrue (is_told v.told) → v'.told ≡ told_after v.told events) × GoesBy parts (Some v) s new next plays events
      × Calmly (m.lists s).failed (bytes_given events) (m.lists next).failed
      × ((t : Terminal) → Placed v.columns v.rows (m.lists s) t → RowsLastIn parts (Some v) s new next plays t events)

  -- after a script that the terminal didn't break off, on one whose state can be read, the picture is the untouched rows and those of the lists
  abbrev pub ScriptsAreRead : Type 0
  ScriptsAreRead =
      (parts : List (ScriptPart Call Answer)) (v : TermView) (s : State) (new : Option TermView) (next : State) (plays : Plays parts (Some v) s new next) →
      0 < v.columns → IsFalse (m.lists s).failed → IsFalse (m.lists next).failed → IsFalse (script_broke parts) →
      AllRunsPlain parts (Some v) s new next plays → AllSizesKnown false parts (Some v) s new next plays → (opening : Screen) → Starts v opening (m.lists s) →
      (v' : TermView) × (new ≡ Some v') × (let opening' = opening_then parts opening in ReadsAs v' (take opening'.row opening'.rows ++ all_rows v'.columns (m.lists next)))

  -- the same for machines that forget rows only as a call is broken off, such as a lone bar and a board: then the rows are known whenever a size comes
  abbrev pub UnbrokenScriptsAreRead : Type 0
  UnbrokenScriptsAreRead =
      (parts : List (ScriptPart Call Answer)) (v : TermView) (s : State) (new : Option TermView) (next : State) (plays : Plays parts (Some v) s new next) →
      0 < v.columns → IsFalse (m.lists s).failed → IsFalse (script_broke parts) → AllRunsPlain parts (Some v) s new next plays → (opening : Screen) → Starts v opening (m.lists s) →
      (v' : TermView) × (new ≡ Some v') × (let opening' = opening_then parts opening in ReadsAs v' (take opening'.row opening'.rows ++ all_rows v'.columns (m.lists next)))

  -- ---- one outcome

  -- neither the terminal's failure nor want of memory
  abbrev pub AllUndisturbed : List (ScriptPart Call Answer) → Type 0
  AllUndisturbed [] = Unit {0}
  AllUndisturbed (Called calls answers ∷ parts) = All (λ answer. is_undisturbed (m.tells answer) ≡ true) answers × AllUndisturbed parts
  AllUndisturbed (Size w h ∷ parts) = AllUndisturbed parts

  -- the script with the answers that its calls give if nothing fails, whatever answers it has, and the last state
  abbrev pub played : Target → List (ScriptPart Call Answer) → State → List (ScriptPart Call Answer) × State
  played target [] s = ([], s)
  played target (Called calls answers ∷ parts) s =
      let run = outcomes m target calls s in
      let others = played target parts run.1 in
      (Called calls run.0 ∷ others.0, others.1)
  played target (Size w h ∷ parts) s = let others = played (sized_target w h target) parts (sized w h target s) in (Size w h ∷ others.0, others.1)

  -- if nothing failed and no memory was refused, the answers and the last state follow from the calls and the sizes alone
  abbrev pub OneScriptOutcome : Type 0
  OneScriptOutcome =
      (parts : List (ScriptPart Call Answer)) (old : Option TermView) (s : State) (new : Option TermView) (next : State) →
      Plays parts old s new next → AllUndisturbed parts → played (target_of old) parts s ≡ (parts, next)

  -- ---- how often it draws

  -- the moments of the unforced draws that a script made
  abbrev pub unforced_in : (parts : List (ScriptPart Call Answer)) (old : Option TermView) (s : State) (new : Option TermView) (next : State) → Plays parts old s new next → List ℕ
  unforced_in [] old s new next plays = []
  unforced_in (Called calls answers ∷ parts) old s new next plays =
      unforced_draws m calls answers old s plays.0 plays.1 plays.2 ++ unforced_in parts plays.0 plays.1 new next plays.3
  unforced_in (Size w h ∷ parts) old s new next plays = unforced_in parts plays.0 (sized w h (target_of old) s) new next plays.4

  -- sizes don't count: from a new rate limiter, a script makes at most 20 unforced draws, and one more for each interval from its start to the last of them
  abbrev pub ScriptsAreBounded : (State → Option Limiter) → Type 0
  ScriptsAreBounded limiter =
      (rate making : ℕ) → 0 < rate → rate < 256 → (parts : List (ScriptPart Call Answer)) (old : Option TermView) (s : State) (new : Option TermView) (next : State)
      (plays : Plays parts old s new next) → limiter s ≡ Some (draw_limiter rate making) →
      let moments = unforced_in parts old s new next plays in
      (last : ℕ) → last_or None moments ≡ Some last → length moments ≤ burst + (last - making) / (draw_limiter rate making).interval

  -- from any state of a limiter, each unforced draw of a script takes one in hand, or one of the intervals from its moment to the last draw
  abbrev pub ScriptsAreBoundedFrom : (State → Option Limiter) → Type 0
  ScriptsAreBoundedFrom limiter =
      (l : Limiter) → 0 < l.interval → (parts : List (ScriptPart Call Answer)) (old : Option TermView) (s : State) (new : Option TermView) (next : State)
      (plays : Plays parts old s new next) → limiter s ≡ Some l →
      let moments = unforced_in parts old s new next plays in
      (last : ℕ) → last_or None moments ≡ Some last → (l.prev ≤ last) × (length moments * l.interval ≤ l.capacity * l.interval + (last - l.prev))

  -- the limiter at a script's end has spent the script's unforced draws, as a run's
  abbrev pub ScriptsSpend : (State → Option Limiter) → Type 0
  ScriptsSpend limiter =
      (l : Limiter) → 0 < l.interval → (parts : List (ScriptPart Call Answer)) (old : Option TermView) (s : State) (new : Option TermView) (next : State)
      (plays : Plays parts old s new next) → limiter s ≡ Some l →
      (l' : Limiter) × (limiter next ≡ Some l') × Spent l l' (length (unforced_in parts old s new next plays))

-- a machine's limiter is unchanged by another size
abbrev pub LeavesLimiter : {State Call Answer : Type 0} {m : Machine State Call Answer} → Sizing m → (State → Option Limiter) → Type 0
LeavesLimiter {State} z limiter = (l : Lists) (s : State) → limiter (z.put l s) ≡ limiter s
