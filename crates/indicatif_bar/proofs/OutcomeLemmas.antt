-- The outcome of a draw, case by case, and what the engine's answer makes of it, of whatever draws.
use Rattle.std.proofs.Common.{◌≡◌, ℕ, ◌<◌, true, false, List, refl, sym, ap, subst, arith, Result, Ok, Err, Option, Some, None, inl, inr, ◌⊎◌, eqb}
use Rattle.std.specs.Prelude.{IsTrue, IsFalse, IfErr, MatchResult}
use Rattle.std.proofs.lemmas.Bool.{ne_eqb, false≢true}
use Rattle.indicatif_text.specs.declared.refusal.Refusal.{Refusal}
use Rattle.indicatif_text.specs.declared.refusal.Refusal.TheVariants.{NoColumns, TooWide, Memory, Terminal as Failure}
use Rattle.indicatif_text.specs.declared.refusal.Drawn.{Drawn}
use Rattle.indicatif_text.specs.declared.refusal.Drawn.TheVariants.{Yes, Limited, Hidden}
use Rattle.indicatif_term.specs.Calls.{TermView}
use Rattle.indicatif_term.specs.Lists.{Lists, forgotten_lists}
use Rattle.indicatif_term.specs.Lines.{are_plain, some_wide, is_fault}
use Rattle.indicatif_term.specs.Engines.{engine_term, Fits, Answers, Counted, Paints, is_failure, lists_after}
use Rattle.indicatif_term.specs.declared.engine.Engine.{Engine}
use Rattle.indicatif_term.proofs.EngineLemmas.{paints_nothing}
use Rattle.indicatif_bar.specs.Machines.{Target, target_of, Machine, Draw, Draws, is_no, comes_to_lines, drawn_by, Leads}
use Rattle.indicatif_bar.specs.Runs.{wrote, WritesLines}
use Rattle.indicatif_bar.specs.Shown.{DrewBy, DrewOn, WritesLinesOn}

-- ---- the outcome, case by case

module _ {S : Type 0} (target : Target) (d : Draw S) where
  pub outcome-unasked : is_no d.ask ≡ true → drawn_by target d ≡ (Ok Limited, d.after_command)
  unfolding drawn_by
  outcome-unasked a = rw a refl

  pub outcome-hidden : is_no d.ask ≡ false → target.hidden ≡ true → drawn_by target d ≡ (Ok Hidden, d.after_command)
  unfolding drawn_by
  outcome-hidden a b = rw (a, b) refl

  pub outcome-no_columns : is_no d.ask ≡ false → target.hidden ≡ false → target.columns ≡ 0 → drawn_by target d ≡ (Err NoColumns, d.after_command)
  unfolding drawn_by
  outcome-no_columns a b c = rw (a, b, c) refl

  pub outcome-limited : is_no d.ask ≡ false → target.hidden ≡ false → 0 < target.columns → d.allowed ≡ false → drawn_by target d ≡ (Ok Limited, d.ready)
  unfolding drawn_by
  outcome-limited a b c e = let some : eqb target.columns 0 ≡ false = ne_eqb target.columns 0 (λ q. omega (arith, q)) in rw (a, b, some, e) refl

  pub outcome-too_wide : is_no d.ask ≡ false → target.hidden ≡ false → 0 < target.columns → d.allowed ≡ true → some_wide target.columns d.lines ≡ true → drawn_by target d ≡ (Err TooWide, d.ready)
  unfolding drawn_by
  outcome-too_wide a b c e f = let some : eqb target.columns 0 ≡ false = ne_eqb target.columns 0 (λ q. omega (arith, q)) in rw (a, b, some, e, f) refl

  pub outcome-yes : is_no d.ask ≡ false → target.hidden ≡ false → 0 < target.columns → d.allowed ≡ true → some_wide target.columns d.lines ≡ false → drawn_by target d ≡ (Ok Yes, d.written)
  unfolding drawn_by
  outcome-yes a b c e f = let some : eqb target.columns 0 ≡ false = ne_eqb target.columns 0 (λ q. omega (arith, q)) in rw (a, b, some, e, f) refl

  -- a draw whose outcome is this
  pub leads_made : {C A : Type 0} (m : Machine S C A) (s : S) (answer : Result Drawn Refusal) (next : S) → drawn_by target d ≡ (answer, next) →
      Leads m target s (Draws d (λ x. x) (λ x. x)) (m.says answer) next
  leads_made m s answer next e = inl (ap (λ o. (m.says o.0, o.1)) (sym e))

-- ---- nothing was written

pub wrote-fine : (answer : Result Drawn Refusal) → wrote answer ≡ false → is_failure answer ≡ false
wrote-fine (Ok d) quiet = refl
wrote-fine (Err e) quiet = quiet

pub wrote_nothing : (v : TermView) (lines : List (List ℕ)) (l l' : Lists) (answer : Result Drawn Refusal) → wrote answer ≡ false → l' ≡ l → WritesLines v v lines l l' answer
wrote_nothing v lines l l' answer quiet e = record {
  counted = let fine = wrote-fine answer quiet in record { columns_stay = refl; rows_stay = refl; faults_are = rw fine refl; kind_is = rw fine refl };
  silent = λ a. refl;
  paints = λ a. subst (Paints v v (is_failure answer) l) (sym e) (paints_nothing v (is_failure answer) l);
}

pub writes_nothing : (old : Option TermView) (lines : List (List ℕ)) (l l' : Lists) (answer : Result Drawn Refusal) → wrote answer ≡ false → l' ≡ l → WritesLinesOn old old lines l l' answer
writes_nothing None lines l l' answer quiet e = refl
writes_nothing (Some v) lines l l' answer quiet e = (v, refl, wrote_nothing v lines l l' answer quiet e)

-- ---- the engine drew

-- a terminal with columns is drawn on
pub comes-shown : {S : Type 0} (v : TermView) (d : Draw S) → is_no d.ask ≡ false → 0 < v.columns → comes_to_lines (target_of (Some v)) d ≡ true
comes-shown v d asked some = let columns : eqb v.columns 0 ≡ false = ne_eqb v.columns 0 (λ e. omega (arith, e)) in rw (asked, columns) refl

-- the answer of a draw whose engine answered so
abbrev pub drawn_answer : Result Unit Refusal → Result Drawn Refusal
drawn_answer (Ok u) = Ok Yes
drawn_answer (Err e) = Err e

module _ {S C A T : Type 0} (m : Machine S C A) (P : S → Type 0) (view : T → TermView) (old new : Engine T) (d : Draw S) (l : Lists) where
  abbrev v : TermView
  v = view (engine_term old)

  abbrev v' : TermView
  v' = view (engine_term new)

  abbrev target : Target
  target = target_of (Some v)

  -- a draw that comes to the engine, from these lists
  pub record Ready : Type 0 where
    pub asked : is_no d.ask ≡ false
    pub some : 0 < v.columns
    pub allowed : d.allowed ≡ true
    pub fits : Fits old l
    pub lists_stay : m.lists d.ready ≡ l
    pub lists_go : m.lists d.broken ≡ forgotten_lists

  -- what the engine says of it
  pub record Drawing (r : Result Unit Refusal) : Type 0 where
    pub answers : Answers v.columns d.lines r
    pub memory : r ≡ Err Memory → d.rows_take ≡ true
    pub counted : Counted v v' r
    pub unchanged : IfErr r (λ e. IsFalse (is_fault e) → new ≡ old)
    pub lists : Fits new (lists_after r l (m.lists d.written))
    pub paints : IsTrue (are_plain d.lines) → Paints v v' (is_failure r) l (lists_after r l (m.lists d.written))

  module _ (ready : Ready) where
    drew_ok : P d.written → Drawing (Ok tt) → DrewBy m P view old new d l (Ok Yes)
    drew_ok holds e = record {
      next = d.written;
      holds = holds;
      fits = e.lists;
      leads = λ s. leads_made target d m s (Ok Yes) d.written (outcome-yes target d ready.asked refl ready.some ready.allowed e.answers.1);
      writes = record {
        counted = record { columns_stay = e.counted.columns_stay; rows_stay = e.counted.rows_stay; faults_are = e.counted.faults_are; kind_is = e.counted.kind_is };
        silent = λ quiet. absurd (false≢true (sym quiet));
        paints = λ plain. e.paints (plain refl);
      };
    }

    -- refused with nothing written
    drew_same : P d.ready → (e : Refusal) → is_fault e ≡ false → new ≡ old → ((s : S) → Leads m target s (Draws d (λ x. x) (λ x. x)) (m.says (Err e)) d.ready) → DrewBy m P view old new d l (Err e)
    drew_same holds e fine same leads = record {
      next = d.ready;
      holds = holds;
      fits = subst (λ x. Fits x (m.lists d.ready)) (sym same) (subst (Fits old) (sym ready.lists_stay) ready.fits);
      leads = leads;
      writes = subst (λ x. WritesLines v (view (engine_term x)) d.lines l (m.lists d.ready) (Err e)) (sym same) (wrote_nothing v d.lines l (m.lists d.ready) (Err e) fine ready.lists_stay);
    }

    drew_err : P d.ready → P d.broken → (e : Refusal) → Drawing (Err e) → DrewBy m P view old new d l (Err e)
    drew_err stays breaks NoColumns e = let none : v.columns ≡ 0 = e.answers in absurd (omega (arith, ready.some))
    drew_err stays breaks TooWide e =
        drew_same stays TooWide refl (e.unchanged refl) (λ s. leads_made target d m s (Err TooWide) d.ready (outcome-too_wide target d ready.asked refl ready.some ready.allowed e.answers.1))
    drew_err stays breaks Memory e = drew_same stays Memory refl (e.unchanged refl)
        (λ s. inr (inl (refl, inr (comes-shown v d ready.asked ready.some, inr (e.memory refl, ready.allowed, refl)))))
    drew_err stays breaks (Failure kind) e = record {
      next = d.broken;
      holds = breaks;
      fits = subst (Fits new) (sym ready.lists_go) e.lists;
      leads = λ s. inr (inr (kind, refl, (ap (λ o. o.0) (outcome-yes target d ready.asked refl ready.some ready.allowed e.answers.1), refl)));
      writes = record {
        counted = record { columns_stay = e.counted.columns_stay; rows_stay = e.counted.rows_stay; faults_are = e.counted.faults_are; kind_is = e.counted.kind_is };
        silent = λ quiet. absurd (false≢true (sym quiet));
        paints = λ plain. subst (Paints v v' true l) (sym ready.lists_go) (e.paints (plain refl));
      };
    }
    drew_err stays breaks _ e = absurd e.answers

    -- the draw, whatever the engine answered
    pub drew : (r : Result Unit Refusal) → MatchResult r (λ _. P d.written) (λ _. P d.ready × P d.broken) → Drawing r → DrewBy m P view old new d l (drawn_answer r)
    drew (Ok u) holds e = drew_ok holds e
    drew (Err x) holds e = drew_err holds.0 holds.1 x e

module _ {S C A T : Type 0} (m : Machine S C A) (P : S → Type 0) (view : T → TermView) (engine : Engine T) (d : Draw S) (l : Lists) where
  -- the limiter doesn't allow it
  pub drew_limited : is_no d.ask ≡ false → 0 < (view (engine_term engine)).columns → d.allowed ≡ false → Fits engine l → m.lists d.ready ≡ l → P d.ready → DrewBy m P view engine engine d l
      (Ok Limited)
  drew_limited asked some withheld fits same p = record {
    next = d.ready;
    holds = p;
    fits = subst (Fits engine) (sym same) fits;
    leads = λ s. leads_made (target_of (Some (view (engine_term engine)))) d m s (Ok Limited) d.ready (outcome-limited (target_of (Some (view (engine_term engine)))) d asked refl some withheld);
    writes = wrote_nothing (view (engine_term engine)) d.lines l (m.lists d.ready) (Ok Limited) refl same;
  }

  -- the lines were not laid out: no columns, or no memory
  pub drew_withheld : (e : Refusal) → is_no d.ask ≡ false → ((e ≡ NoColumns) × ((view (engine_term engine)).columns ≡ 0)) ⊎ ((e ≡ Memory) × (0 < (view (engine_term engine)).columns)) →
      (e ≡ Memory → d.lines_take ≡ true) → Fits engine l → m.lists d.after_command ≡ l → P d.after_command → DrewBy m P view engine engine d l (Err e)
  drew_withheld e asked (inl none) takes fits same p =
      let target = target_of (Some (view (engine_term engine))) in
      rw none.0 (record {
        next = d.after_command;
        holds = p;
        fits = subst (Fits engine) (sym same) fits;
        leads = λ s. leads_made target d m s (Err NoColumns) d.after_command (outcome-no_columns target d asked refl none.1);
        writes = wrote_nothing (view (engine_term engine)) d.lines l (m.lists d.after_command) (Err NoColumns) refl same;
      })
  drew_withheld e asked (inr short) takes fits same p =
      let target = target_of (Some (view (engine_term engine))) in
      rw short.0 (record {
        next = d.after_command;
        holds = p;
        fits = subst (Fits engine) (sym same) fits;
        leads = λ s. inr (inl (refl, inr (comes-shown (view (engine_term engine)) d asked short.1, inl (takes short.0, refl))));
        writes = wrote_nothing (view (engine_term engine)) d.lines l (m.lists d.after_command) (Err Memory) refl same;
      })

-- a draw of a hidden target, or one that isn't asked
pub drew_none : {S C A : Type 0} (m : Machine S C A) (old : Option TermView) (d : Draw S) (l : Lists) (answer : Result Drawn Refusal) (next : S) →
    wrote answer ≡ false → m.lists next ≡ l → drawn_by (target_of old) d ≡ (answer, next) → DrewOn m old old d l answer next
drew_none m old d l answer next quiet e made = record {
  leads = λ s. leads_made (target_of old) d m s answer next made;
  writes = writes_nothing old d.lines l (m.lists next) answer quiet e;
}
