-- Anything that draws by calls, such as a lone bar or a board: the effect of a call, and its outcome. A draw goes in this order: the record changes; the call wants no draw; the target is hidden; it
-- has no columns; the lines are laid out and stored; the limiter decides, unless the draw is forced; a line is too wide; the terminal is written. A lone bar asks the limiter before its lines are
-- laid out.
use Rattle.std.specs.Prelude.{◌≡◌, ℕ, Bool, true, false, IsTrue, not, ◌&&◌, ◌==◌, List, [], ◌∷◌, Option, Some, None, MatchOption, Result, Ok, Err, if◌then◌else◌, ◌⊎◌}
use Rattle.std.specs.declared.io.ErrorKind.{ErrorKind}
use Rattle.indicatif_text.specs.declared.refusal.Refusal.{Refusal}
use Rattle.indicatif_text.specs.declared.refusal.Refusal.TheVariants.{NoColumns, TooWide, Memory, Terminal as Failure}
use Rattle.indicatif_text.specs.declared.refusal.Drawn.{Drawn}
use Rattle.indicatif_text.specs.declared.refusal.Drawn.TheVariants.{Yes, Limited, Hidden}
use Rattle.indicatif_term.specs.Calls.{TermView}
use Rattle.indicatif_term.specs.Lists.{Lists}
use Rattle.std.specs.List.{list_any}
use Rattle.indicatif_text.specs.Columns.{has_wide}
use Rattle.indicatif_bar.specs.declared.ask.Ask.{Ask}
use Rattle.indicatif_bar.specs.declared.ask.Ask.TheVariants.{No}

-- ---- where it draws

-- hidden, or a terminal of this size
pub record Target : Type 0 where
  pub hidden : Bool
  pub columns : ℕ
  pub rows : ℕ

-- the target with this view; hidden if there is none
abbrev pub target_of : Option TermView → Target
target_of None = record { hidden = true; columns = 0; rows = 0 }
target_of (Some view) = record { hidden = false; columns = view.columns; rows = view.rows }

-- how a target changes, by its views before and after: a hidden one stays hidden, and for a terminal this holds
abbrev pub On : Option TermView → Option TermView → (TermView → TermView → Type 0) → Type 0
On old new P = MatchOption old (new ≡ None) (λ v. (v' : TermView) × (new ≡ Some v') × P v v')

-- whether the call wants no draw
abbrev pub is_no : Ask → Bool
is_no No = true
is_no _ = false

-- ---- the effect of a call

-- a draw: what decides how far it gets, and its states
pub record Draw (State : Type 0) : Type 0 where
  -- what takes memory: a text, before the record changes; lines, as they are laid out; and their rows, as they are planned
  pub text_takes : Bool
  pub lines_take : Bool
  pub rows_take : Bool
  pub ask : Ask
  -- the record has changed
  pub after_command : State
  -- the lines are laid out and stored, and the limiter was asked; whether it allows the draw
  pub ready : State
  pub allowed : Bool
  -- all lines that are to be written
  pub lines : List (List ℕ)
  -- the terminal is written; or it failed, and the rows are forgotten
  pub written : State
  pub broken : State

-- a call answers at once, and may take memory; or it draws: `ends` gives the last state after the draw's answer, `breaks` after want of memory or the terminal's failure
pub data Deed (State Answer : Type 0) : Type 0 where
  AtOnce : (takes : Bool) → (answer : Answer) → (next : State) → Deed State Answer
  Draws : (draw : Draw State) → (ends breaks : State → State) → Deed State Answer

-- anything that draws by calls
pub record Machine (State Call Answer : Type 0) : Type 0 where
  -- the rows that it drew
  pub lists : State → Lists
  -- the effect of a call at a moment
  pub deed : Target → Call → ℕ → State → Deed State Answer
  -- the answer of a call, by that of its draw; and the draw of an answer, `Limited` if it says nothing of one
  pub says : Result Drawn Refusal → Answer
  pub tells : Answer → Result Drawn Refusal
  pub tells_said : (r : Result Drawn Refusal) → tells (says r) ≡ r

-- ---- if nothing fails

-- the answer of a draw, and the state after it, by the first of its steps that ends it
unfoldable pub drawn_by : {State : Type 0} → Target → Draw State → Result Drawn Refusal × State
drawn_by target d =
    if is_no d.ask then (Ok Limited, d.after_command)
    else if target.hidden then (Ok Hidden, d.after_command)
    else if target.columns == 0 then (Err NoColumns, d.after_command)
    else if not d.allowed then (Ok Limited, d.ready)
    else if list_any (has_wide target.columns) d.lines then (Err TooWide, d.ready)
    else (Ok Yes, d.written)

-- ---- whatever fails

-- whether a draw gets as far as its lines
abbrev pub comes_to_lines : {State : Type 0} → Target → Draw State → Bool
comes_to_lines target d = not (is_no d.ask) && not target.hidden && not (target.columns == 0)

-- ---- the outcome of a call

module _ {State Call Answer : Type 0} (m : Machine State Call Answer) where
  -- the answer of a call, and the state after it, if nothing fails
  abbrev pub done_by : Target → Deed State Answer → Answer × State
  done_by target (AtOnce takes answer next) = (answer, next)
  done_by target (Draws d ends breaks) = let o = drawn_by target d in (m.says o.0, ends o.1)

  -- a call's answer, and the next state. One that answers at once does so, or is refused memory. One that draws gets as far as its steps let it. Or memory is refused before the record changes, as
  -- lines are laid out, or, once the limiter allowed it, as rows are planned, if that step takes some, and the state is the one before it. Or the terminal fails while it is written
  abbrev pub Leads : Target → State → Deed State Answer → Answer → State → Type 0
  Leads target s (AtOnce takes said after) answer next =
      let ended : Answer × State = (said, after) in
      ((answer, next) ≡ ended) ⊎ ((answer ≡ m.says (Err Memory)) × IsTrue takes × (next ≡ s))
  Leads target s (Draws d ends breaks) answer next =
      let o = drawn_by target d in
      let ended : Answer × State = (m.says o.0, ends o.1) in
      ((answer, next) ≡ ended)
      ⊎ (((answer ≡ m.says (Err Memory))
      × ((IsTrue d.text_takes × (next ≡ breaks s))
      ⊎ (IsTrue (comes_to_lines target d) × ((IsTrue d.lines_take × (next ≡ breaks d.after_command)) ⊎ (IsTrue d.rows_take × IsTrue d.allowed × (next ≡ breaks d.ready))))))
      ⊎ ((kind : ErrorKind) × (answer ≡ m.says (Err (Failure kind))) × ((o.0 ≡ Ok Yes) × (next ≡ breaks d.broken))))

  -- the answers of calls at their moments, one after another, and the last state
  abbrev pub outcomes : Target → List (Call × ℕ) → State → List Answer × State
  outcomes target [] s = ([], s)
  outcomes target (call ∷ calls) s =
      let first = done_by target (m.deed target call.0 call.1 s) in
      let others = outcomes target calls first.1 in
      (first.0 ∷ others.0, others.1)
