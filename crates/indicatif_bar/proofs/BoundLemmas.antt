-- How often a run draws that asks a limiter.
use Rattle.std.proofs.Common.{◌≡◌, ℕ, ◌+◌, ◌-◌, ◌%◌, min, ◌*◌, ◌/◌, ◌<◌, ◌≤◌, ◌⊎◌, inl, inr, Bool, true, false, ◌&&◌, List, [], ◌∷◌, length, refl, sym, ◌∙◌, ap, subst, arith, Result, Ok, Err, Option, Some, None, if◌then◌else◌}
use Rattle.std.specs.Prelude.{not, ◌==◌}
use Rattle.std.proofs.lemmas.Bool.{cond_both, false≢true}
use Rattle.std.proofs.lemmas.Nat.{le-div}
use Rattle.std.proofs.Math.Nat.{mul-le-mul_right, mod-add-div', min-le_right}
use Rattle.indicatif_text.specs.declared.refusal.Refusal.{Refusal}
use Rattle.indicatif_text.specs.declared.refusal.Refusal.TheVariants.{NoColumns, TooWide, Memory, Terminal as Failure}
use Rattle.indicatif_text.specs.declared.refusal.Drawn.{Drawn}
use Rattle.indicatif_text.specs.declared.refusal.Drawn.TheVariants.{Yes, Limited, Hidden}
use Rattle.indicatif_term.specs.Calls.{TermView}
use Rattle.indicatif_term.specs.Lines.{some_wide}
use Rattle.indicatif_term.specs.Limiters.{Limiter, allow, used, draw_limiter}
use Rattle.indicatif_term.proofs.LimiterLemmas.{Claim, from_used, claim_kept, answered, counted}
use Rattle.indicatif_bar.specs.declared.ask.Ask.{Ask}
use Rattle.indicatif_bar.specs.declared.ask.Ask.TheVariants.{No, Unforced, Forced}
use Rattle.indicatif_bar.specs.Machines.{Target, target_of, Machine, Draw, Deed, AtOnce, Draws, Leads, is_no, drawn_by}
use Rattle.indicatif_bar.specs.Kinds.{Kind, asked_of}
use Rattle.indicatif_bar.specs.Runs.{Runs, deed_on}
use Rattle.indicatif_bar.specs.Lone.{LoneState, LoneCall, Obey, Log, Clear, lone, refused_at_once, draw_of_call, deed_unless}
use Rattle.indicatif_bar.specs.Bounds.{AsksLimiter, DeedAsks, IsLimited, Spent, SpendingsAddUp, is_unforced, is_yes, drew_unforced, unforced_draws, RunsAreBounded, RunsAreBoundedFrom, RunsSpend}

and-false : (a b : Bool) → b ≡ false → (a && b) ≡ false
and-false true b e = e
and-false false b e = refl

module _ {S C A : Type 0} (m : Machine S C A) (limiter : S → Option Limiter) (l : Limiter) (now : ℕ) where
  -- what a call made of the limiter: nothing, and no unforced draw was made; or it was asked and allowed one
  abbrev pub LimiterStep : S → Bool → Type 0
  LimiterStep next drew = ((limiter next ≡ Some l) × (drew ≡ false)) ⊎ (((allow l now).0 ≡ true) × (limiter next ≡ Some (allow l now).1))

  -- a state after the limiter was asked
  asked_step : (ask : Ask) (next : S) (drew : Bool) → limiter next ≡ (asked_of ask now (Some l)).1 → ((asked_of ask now (Some l)).0 ≡ false → drew ≡ false) →
      (is_unforced ask ≡ false → drew ≡ false) → LimiterStep next drew
  asked_step No next drew e quiet forced = inl (e, forced refl)
  asked_step Forced next drew e quiet forced = inl (e, forced refl)
  asked_step Unforced next drew e quiet forced = elim (answered l now) [
    | inl y ↦ inr (ap (λ o. o.0) y.2, e)
    | inr n ↦ inl (e ∙ ap (λ o. Some o.1) n, quiet (ap (λ o. o.0) n))
  ]

  module _ (target : Target) (s : S) (is : limiter s ≡ Some l) (d : Draw S) (asks : AsksLimiter limiter now s d) where
    abbrev drew : Result Drawn Refusal → Bool
    drew said = is_unforced d.ask && is_yes said

    unforced_no : (said : Result Drawn Refusal) → is_unforced d.ask ≡ false → drew said ≡ false
    unforced_no said e = rw e refl

    before_is : limiter d.after_command ≡ Some l
    before_is = asks.before ∙ is

    ready_is : limiter d.ready ≡ (asked_of d.ask now (Some l)).1
    ready_is = asks.asked ∙ ap (λ o. (asked_of d.ask now o).1) is

    decides : d.allowed ≡ (asked_of d.ask now (Some l)).0
    decides = asks.decides ∙ ap (λ o. (asked_of d.ask now o).0) is

    -- a state with the limiter asked, whose answer isn't that a draw was made
    unmade : (next : S) (said : Result Drawn Refusal) → limiter next ≡ limiter d.ready → is_yes said ≡ false → LimiterStep next (drew said)
    unmade next said e other = asked_step d.ask next (drew said) (e ∙ ready_is) (λ f. and-false (is_unforced d.ask) (is_yes said) other) (λ f. unforced_no said f)

    untouched : (next : S) (said : Result Drawn Refusal) → limiter next ≡ limiter d.after_command → is_yes said ≡ false → LimiterStep next (drew said)
    untouched next said e other = inl (e ∙ before_is, and-false (is_unforced d.ask) (is_yes said) other)

    drawn_step : (ends : S → S) → ((x : S) → limiter (ends x) ≡ limiter x) → LimiterStep (ends (drawn_by target d).1) (drew (drawn_by target d).0)
    unfolding drawn_by
    drawn_step ends keeps =
        let P = λ (o : Result Drawn Refusal × S). LimiterStep (ends o.1) (drew o.0) in
        cond_both (is_no d.ask) (Ok Limited, d.after_command) _ P (λ a. untouched (ends d.after_command) (Ok Limited) (keeps d.after_command) refl)
        (λ a. cond_both target.hidden (Ok Hidden, d.after_command) _ P (λ b. untouched (ends d.after_command) (Ok Hidden) (keeps d.after_command) refl)
        (λ b. cond_both (target.columns == 0) (Err NoColumns, d.after_command) _ P (λ c. untouched (ends d.after_command) (Err NoColumns) (keeps d.after_command) refl)
        (λ c. cond_both (not d.allowed) (Ok Limited, d.ready) _ P (λ e. unmade (ends d.ready) (Ok Limited) (keeps d.ready) refl)
        (λ e. cond_both (some_wide target.columns d.lines) (Err TooWide, d.ready) (Ok Yes, d.written) P (λ f. unmade (ends d.ready) (Err TooWide) (keeps d.ready) refl)
        (λ f. asked_step d.ask (ends d.written) (drew (Ok Yes)) (keeps d.written ∙ asks.written ∙ ready_is)
        (λ off. let not_allowed : d.allowed ≡ false = decides ∙ off in absurd (false≢true (sym e ∙ ap not not_allowed))) (λ g. unforced_no (Ok Yes) g))))))

  pub call_step : (target : Target) (s : S) (deed : Deed S A) (answer : A) (next : S) → limiter s ≡ Some l → DeedAsks limiter now s deed → Leads m target s deed answer next →
      LimiterStep next (drew_unforced deed (m.tells answer))
  call_step target s (AtOnce takes said after) answer next is asks (inl made) = inl (ap (λ o. limiter o.1) made ∙ asks ∙ is, refl)
  call_step target s (AtOnce takes said after) answer next is asks (inr short) = inl (ap limiter short.2 ∙ is, refl)
  call_step target s (Draws d ends breaks) answer next is asks (inl made) =
      let said : m.tells answer ≡ (drawn_by target d).0 = ap (λ o. m.tells o.0) made ∙ m.tells_said (drawn_by target d).0 in
      subst (λ r. LimiterStep next (drew_unforced {Answer = A} (Draws d ends breaks) r)) (sym said)
      (subst (λ x. LimiterStep x (drew_unforced {Answer = A} (Draws d ends breaks) (drawn_by target d).0)) (sym (ap (λ o. o.1) made)) (drawn_step target s is d asks.0 ends asks.1))
  call_step target s (Draws d ends breaks) answer next is asks (inr (inl short)) =
      let said : m.tells answer ≡ Err Memory = ap m.tells short.0 ∙ m.tells_said (Err Memory) in
      let other : is_yes (m.tells answer) ≡ false = ap is_yes said in
      elim short.1 [
        | inl text ↦ inl (ap limiter text.1 ∙ asks.2 s ∙ is, and-false (is_unforced d.ask) (is_yes (m.tells answer)) other)
        | inr shown ↦ elim shown.1 [
          | inl lines ↦ untouched target s is d asks.0 next (m.tells answer) (ap limiter lines.1 ∙ asks.2 d.after_command) other
          | inr rows ↦ unmade target s is d asks.0 next (m.tells answer) (ap limiter rows.2 ∙ asks.2 d.ready) other
        ]
      ]
  call_step target s (Draws d ends breaks) answer next is asks (inr (inr broken)) =
      let said : m.tells answer ≡ Err (Failure broken.0) = ap m.tells broken.1 ∙ m.tells_said (Err (Failure broken.0)) in
      unmade target s is d asks.0 next (m.tells answer) (ap limiter broken.2.1 ∙ asks.2 d.broken ∙ asks.0.broken) (ap is_yes said)

module _ {S C A : Type 0} (m : Machine S C A) (limiter : S → Option Limiter) (limited : IsLimited m limiter) where
  -- one call more at the front
  pub with_step : (l : Limiter) (now : ℕ) (next : S) (drew : Bool) (others : List ℕ) → 0 < l.interval → LimiterStep m limiter l now next drew →
      ((k : Limiter) → 0 < k.interval → limiter next ≡ Some k → Claim k others) →
      Claim l (if drew then now ∷ others else others)
  with_step l now next drew others positive (inl same) claims = rw same.1 (claims l positive same.0)
  with_step l now next drew others positive (inr asked) claims = elim (answered l now) [
    | inl y ↦
        let claim : Claim (used l (now - l.prev) now) others = claims (used l (now - l.prev) now) positive (asked.1 ∙ ap (λ o. Some o.1) y.2) in
        cond_both drew (now ∷ others) others (Claim l) (λ t. from_used l now others positive y.0 y.1 claim) (λ f. claim_kept l now others positive y.0 y.1 claim)
    | inr n ↦ absurd (false≢true (sym (ap (λ o. o.0) n) ∙ asked.0))
  ]

  run_claims : (calls : List (C × ℕ)) (answers : List A) (old : Option TermView) (s : S) (new : Option TermView) (next : S) (run : Runs m calls answers old s new next) (l : Limiter) →
      0 < l.interval → limiter s ≡ Some l →
      Claim l (unforced_draws m calls answers old s new next run)
  run_claims [] [] old s new next run l positive is = λ last e. absurd (cc e)
  run_claims (call ∷ calls) (answer ∷ answers) old s new next run l positive is =
      with_step l call.1 run.1 (drew_unforced (deed_on m old call s) (m.tells answer)) (unforced_draws m calls answers run.0 run.1 new next run.3) positive
      (call_step m limiter l call.1 (target_of old) s (deed_on m old call s) answer run.1 is (limited (target_of old) call.0 call.1 s) run.2.leads)
      (λ k some e. run_claims calls answers run.0 run.1 new next run.3 k some e)
  run_claims [] (answer ∷ answers) old s new next run l positive is = absurd run
  run_claims (call ∷ calls) [] old s new next run l positive is = absurd run

  pub runs_bounded : RunsAreBounded m limiter
  runs_bounded rate making some small calls answers old s new next run is last e =
      let whole : 1 ≤ 1000 / rate = le-div 1 1000 rate some (omega (arith, small)) in
      let positive : 0 < 1000 / rate * 1000000 = omega (arith, whole) in
      let moments = unforced_draws m calls answers old s new next run in
      let r = run_claims calls answers old s new next run (draw_limiter rate making) positive is last e in
      counted (length moments) (1000 / rate * 1000000) (last - making) positive r.1

  pub runs_bounded_from : RunsAreBoundedFrom m limiter
  runs_bounded_from l positive calls answers old s new next run is = run_claims calls answers old s new next run l positive is

-- ---- what draws spend

right_distrib : (a b k : ℕ) → (a + b) * k ≡ a * k + b * k
right_distrib a b k = grind arith

-- a draw that the limiter allows
used_spends : (l : Limiter) (now : ℕ) → 0 < l.interval → l.prev ≤ now → (0 < l.capacity) ⊎ (l.interval ≤ now - l.prev) → Spent l (used l (now - l.prev) now) 1
used_spends l now positive later leaves =
    let q = (now - l.prev) / l.interval in
    let some : 1 ≤ l.capacity + (now - l.prev) / l.interval = elim leaves as (λ o. 1 ≤ l.capacity + (now - l.prev) / l.interval) [
      | inl h ↦ omega (arith, h)
      | inr h ↦ let one : 1 ≤ (now - l.prev) / l.interval = le-div 1 (now - l.prev) l.interval positive (omega (arith, h)) in omega (arith, one)
    ] in
    let hand = min l.most (l.capacity + q - 1) in
    let fewer : 1 + hand ≤ l.capacity + q = omega (arith, some, min-le_right l.most (l.capacity + q - 1)) in
    let all : 1 * l.interval + hand * l.interval ≤ (l.capacity + q) * l.interval =
    subst (λ x. x ≤ (l.capacity + q) * l.interval) (right_distrib 1 hand l.interval) (mul-le-mul_right l.interval fewer) in
    let paid : 1 * l.interval + hand * l.interval ≤ l.capacity * l.interval + q * l.interval = subst (λ x. 1 * l.interval + hand * l.interval ≤ x) (right_distrib l.capacity q l.interval) all in
    let on : now - (now - l.prev) % l.interval ≡ l.prev + q * l.interval = omega (arith, mod-add-div' (now - l.prev) l.interval, later) in
    record { interval = refl; goes_on = omega (arith, on); paid = omega (arith, on, paid) }

pub spendings_add_up : SpendingsAddUp
spendings_add_up l k l' n m a b =
    let paid : m * l.interval + l'.capacity * l.interval ≤ k.capacity * l.interval + (l'.prev - k.prev) =
    subst (λ i. m * i + l'.capacity * i ≤ k.capacity * i + (l'.prev - k.prev)) a.interval b.paid in
    record {
      interval = b.interval ∙ a.interval;
      goes_on = omega (arith, a.goes_on, b.goes_on);
      paid = omega (arith, right_distrib n m l.interval, a.paid, paid, a.goes_on, b.goes_on);
    }

pub spent_none : (l : Limiter) → Spent l l 0
spent_none l = record { interval = refl; goes_on = omega arith; paid = omega arith }

-- whatever became of the draw itself
spent_less : (l l' : Limiter) → Spent l l' 1 → Spent l l' 0
spent_less l l' a = record { interval = a.interval; goes_on = a.goes_on; paid = omega (arith, a.paid) }

-- the draws with one more at the front, where it is
count_front : (drew : Bool) (now : ℕ) (others : List ℕ) → length (if drew then now ∷ others else others) ≡ (if drew then 1 else 0) + length others
count_front true now others = omega arith
count_front false now others = omega arith

module _ {S C A : Type 0} (m : Machine S C A) (limiter : S → Option Limiter) (limited : IsLimited m limiter) where
  spends_step : (l : Limiter) (now : ℕ) (next : S) (drew : Bool) → 0 < l.interval → LimiterStep m limiter l now next drew →
      (k : Limiter) × (limiter next ≡ Some k) × Spent l k (if drew then 1 else 0)
  spends_step l now next drew positive (inl same) = (l, same.0, rw same.1 (spent_none l))
  spends_step l now next drew positive (inr asked) = elim (answered l now) [
    | inl y ↦
        let k = used l (now - l.prev) now in
        let spent : Spent l k 1 = used_spends l now positive y.0 y.1 in
        (k, asked.1 ∙ ap (λ o. Some o.1) y.2, cond_both drew 1 0 (Spent l k) (λ t. spent) (λ f. spent_less l k spent))
    | inr n ↦ absurd (false≢true (sym (ap (λ o. o.0) n) ∙ asked.0))
  ]

  pub run_spends : RunsSpend m limiter
  run_spends l positive [] [] old s new next run is = (l, ap limiter run.1 ∙ is, spent_none l)
  run_spends l positive (call ∷ calls) (answer ∷ answers) old s new next run is =
      let drew = drew_unforced (deed_on m old call s) (m.tells answer) in
      let step =
      spends_step l call.1 run.1 drew positive (call_step m limiter l call.1 (target_of old) s (deed_on m old call s) answer run.1 is (limited (target_of old) call.0 call.1 s) run.2.leads) in
      let rest = run_spends step.0 (subst (λ i. 0 < i) (sym step.2.interval) positive) calls answers run.0 run.1 new next run.3 step.1 in
      let others = unforced_draws m calls answers run.0 run.1 new next run.3 in (
        rest.0,
        rest.1,
        subst (Spent l rest.0) (sym (count_front drew call.1 others)) (spendings_add_up l step.0 rest.0 (if drew then 1 else 0) (length others) step.2 rest.2),
      )
  run_spends l positive [] (answer ∷ answers) old s new next run is = absurd run
  run_spends l positive (call ∷ calls) [] old s new next run is = absurd run

-- ---- a lone bar asks its limiter

deed_asks : {B C : Type 0} (kind : Kind B C) (refused : Option Refusal) (d : Draw (LoneState B)) (now : ℕ) (s : LoneState B) → AsksLimiter (λ x. x.limiter) now s d →
    DeedAsks {State = LoneState B} {Answer = Result Drawn Refusal} (λ x. x.limiter) now s (deed_unless kind refused d s)
deed_asks kind (Some e) d now s asks = refl
deed_asks kind None d now s asks = (asks, (λ x. refl), (λ x. refl))

call_asks : {B C : Type 0} (kind : Kind B C) (target : Target) (call : LoneCall C) (now : ℕ) (s : LoneState B) → AsksLimiter (λ x. x.limiter) now s (draw_of_call kind target call now s)
call_asks kind target (Obey command) now s = record { before = refl; decides = refl; asked = refl; written = refl; broken = refl }
call_asks kind target (Log text) now s = record { before = refl; decides = refl; asked = refl; written = refl; broken = refl }
call_asks kind target Clear now s = record { before = refl; decides = refl; asked = refl; written = refl; broken = refl }

pub lone_limited : {B C : Type 0} (kind : Kind B C) → IsLimited (lone kind) (λ s. s.limiter)
lone_limited kind target call now s =
    deed_asks kind (refused_at_once kind call now s.bar) (draw_of_call kind target call now s) now s (call_asks kind target call now s)

-- without a limiter each draw is allowed
pub allowed_without : (ask : Ask) (now : ℕ) (limiter : Option Limiter) → limiter ≡ None → (asked_of ask now limiter).0 ≡ true
allowed_without No now limiter e = refl
allowed_without Unforced now limiter e = ap (λ o. (asked_of Unforced now o).0) e
allowed_without Forced now limiter e = refl

pub call_allowed : {B C : Type 0} (kind : Kind B C) (target : Target) (call : LoneCall C) (now : ℕ) (s : LoneState B) → s.limiter ≡ None → (draw_of_call kind target call now s).allowed ≡ true
call_allowed kind target (Obey command) now s none = allowed_without (kind.after command s.bar now).1 now s.limiter none
call_allowed kind target (Log text) now s none = refl
call_allowed kind target Clear now s none = refl
