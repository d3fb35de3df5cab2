-- When a call gives which answer, of whatever draws.
use Rattle.std.proofs.Common.{◌≡◌, ℕ, ◌+◌, ◌%◌, ◌^◌, List, Bool, true, false, refl, sym, ◌∙◌, ap, subst, arith, Result, Ok, Err, Option, Some, None, inl, inr, if◌then◌else◌}
use Rattle.std.specs.Prelude.{◌↔◌, ◌==◌, not}
use Rattle.std.proofs.lemmas.Bool.{cond_both, false≢true, eqb-true, eq-eqb}
use Rattle.std.proofs.Math.Bool.{or-true}
use Rattle.std.specs.declared.io.ErrorKind.{ErrorKind}
use Rattle.indicatif_text.specs.declared.refusal.Refusal.{Refusal}
use Rattle.indicatif_text.specs.declared.refusal.Refusal.TheVariants.{NoColumns, TooWide, Memory, Terminal as Failure}
use Rattle.indicatif_text.specs.declared.refusal.Drawn.{Drawn}
use Rattle.indicatif_text.specs.declared.refusal.Drawn.TheVariants.{Yes, Limited, Hidden}
use Rattle.indicatif_term.specs.Calls.{TermView}
use Rattle.indicatif_term.specs.Lists.{Lists}
use Rattle.indicatif_term.specs.Lines.{some_wide}
use Rattle.indicatif_term.specs.Engines.{is_failure, failure_kind}
use Rattle.indicatif_bar.specs.Machines.{Target, target_of, Machine, Draw, Deed, AtOnce, Draws, Leads, is_no, comes_to_lines, drawn_by}
use Rattle.indicatif_bar.specs.Shown.{WritesLinesOn}
use Rattle.indicatif_bar.specs.Runs.{wrote, deed_on, lines_by}
use Rattle.indicatif_bar.specs.Says.{Decided, DecidedBy, TakesMemory, EachSays}

clash : (b : Bool) → b ≡ true → b ≡ false → ⊥
clash b t f = false≢true (sym f ∙ t)

yes_of : (b : Bool) → not b ≡ false → b ≡ true
yes_of true e = refl
yes_of false e = absurd (false≢true (sym e))

no_of : (b : Bool) → not b ≡ true → b ≡ false
no_of true e = absurd (false≢true e)
no_of false e = refl

module _ {S : Type 0} (target : Target) (d : Draw S) where
  shown : is_no d.ask ≡ false → target.hidden ≡ false → (target.columns == 0) ≡ false → comes_to_lines target d ≡ true
  shown a b c = rw (a, b, c) refl

  unshown-no : is_no d.ask ≡ true → comes_to_lines target d ≡ false
  unshown-no a = rw a refl

  unshown-hidden : is_no d.ask ≡ false → target.hidden ≡ true → comes_to_lines target d ≡ false
  unshown-hidden a b = rw (a, b) refl

  unshown-columns : is_no d.ask ≡ false → target.hidden ≡ false → (target.columns == 0) ≡ true → comes_to_lines target d ≡ false
  unshown-columns a b c = rw (a, b, c) refl

  decided_unasked : is_no d.ask ≡ true → Decided target d (Ok Limited)
  decided_unasked a = record {
    limited = ((λ e. inl a), (λ e. refl));
    hidden = ((λ e. cc), (λ r. absurd (clash (is_no d.ask) a r.0)));
    no_columns = ((λ e. cc), (λ r. absurd (clash (is_no d.ask) a r.0)));
    too_wide = ((λ e. cc), (λ r. absurd (clash (comes_to_lines target d) r.0 (unshown-no a))));
    wrote_is = ((λ e. absurd (false≢true e)), (λ r. absurd (clash (comes_to_lines target d) r.0 (unshown-no a))));
  }

  decided_hidden : is_no d.ask ≡ false → target.hidden ≡ true → Decided target d (Ok Hidden)
  decided_hidden a b = record {
    limited = ((λ e. cc), (λ r. elim r [ inl q ↦ absurd (clash (is_no d.ask) q a) | inr q ↦ absurd (clash (comes_to_lines target d) q.0 (unshown-hidden a b)) ]));
    hidden = ((λ e. (a, b)), (λ e. refl));
    no_columns = ((λ e. cc), (λ r. absurd (clash target.hidden b r.1)));
    too_wide = ((λ e. cc), (λ r. absurd (clash (comes_to_lines target d) r.0 (unshown-hidden a b))));
    wrote_is = ((λ e. absurd (false≢true e)), (λ r. absurd (clash (comes_to_lines target d) r.0 (unshown-hidden a b))));
  }

  decided_no_columns : is_no d.ask ≡ false → target.hidden ≡ false → (target.columns == 0) ≡ true → Decided target d (Err NoColumns)
  decided_no_columns a b c = record {
    limited = ((λ e. cc), (λ r. elim r [ inl q ↦ absurd (clash (is_no d.ask) q a) | inr q ↦ absurd (clash (comes_to_lines target d) q.0 (unshown-columns a b c)) ]));
    hidden = ((λ e. cc), (λ r. absurd (clash target.hidden r.1 b)));
    no_columns = ((λ e. (a, b, eqb-true target.columns 0 c)), (λ e. refl));
    too_wide = ((λ e. cc), (λ r. absurd (clash (comes_to_lines target d) r.0 (unshown-columns a b c))));
    wrote_is = ((λ e. absurd (false≢true e)), (λ r. absurd (clash (comes_to_lines target d) r.0 (unshown-columns a b c))));
  }

  module _ (a : is_no d.ask ≡ false) (b : target.hidden ≡ false) (c : (target.columns == 0) ≡ false) where
    decided_limited : d.allowed ≡ false → Decided target d (Ok Limited)
    decided_limited f = record {
      limited = ((λ e. inr (shown a b c, f)), (λ e. refl));
      hidden = ((λ e. cc), (λ r. absurd (clash target.hidden r.1 b)));
      no_columns = ((λ e. cc), (λ r. absurd (clash (target.columns == 0) (eq-eqb target.columns 0 r.2) c)));
      too_wide = ((λ e. cc), (λ r. absurd (clash d.allowed r.1 f)));
      wrote_is = ((λ e. absurd (false≢true e)), (λ r. absurd (clash d.allowed r.1 f)));
    }

    module _ (f : d.allowed ≡ true) where
      decided_too_wide : some_wide target.columns d.lines ≡ true → Decided target d (Err TooWide)
      decided_too_wide g = record {
        limited = ((λ e. cc), (λ r. elim r [ inl q ↦ absurd (clash (is_no d.ask) q a) | inr q ↦ absurd (clash d.allowed f q.1) ]));
        hidden = ((λ e. cc), (λ r. absurd (clash target.hidden r.1 b)));
        no_columns = ((λ e. cc), (λ r. absurd (clash (target.columns == 0) (eq-eqb target.columns 0 r.2) c)));
        too_wide = ((λ e. (shown a b c, f, g)), (λ e. refl));
        wrote_is = ((λ e. absurd (false≢true e)), (λ r. absurd (clash (some_wide target.columns d.lines) g r.2)));
      }

      decided_yes : some_wide target.columns d.lines ≡ false → Decided target d (Ok Yes)
      decided_yes g = record {
        limited = ((λ e. cc), (λ r. elim r [ inl q ↦ absurd (clash (is_no d.ask) q a) | inr q ↦ absurd (clash d.allowed f q.1) ]));
        hidden = ((λ e. cc), (λ r. absurd (clash target.hidden r.1 b)));
        no_columns = ((λ e. cc), (λ r. absurd (clash (target.columns == 0) (eq-eqb target.columns 0 r.2) c)));
        too_wide = ((λ e. cc), (λ r. absurd (clash (some_wide target.columns d.lines) r.2 g)));
        wrote_is = ((λ e. (shown a b c, f, g)), (λ r. refl));
      }

  outcome_decided : Decided target d (drawn_by target d).0
  unfolding drawn_by
  outcome_decided =
      let P = λ (o : Result Drawn Refusal × S). Decided target d o.0 in
      cond_both (is_no d.ask) (Ok Limited, d.after_command) _ P (λ a. decided_unasked a)
      (λ a. cond_both target.hidden (Ok Hidden, d.after_command) _ P (λ b. decided_hidden a b)
      (λ b. cond_both (target.columns == 0) (Err NoColumns, d.after_command) _ P (λ c. decided_no_columns a b c)
      (λ c. cond_both (not d.allowed) (Ok Limited, d.ready) _ P (λ f. decided_limited a b c (no_of d.allowed f))
      (λ f. cond_both (some_wide target.columns d.lines) (Err TooWide, d.ready) (Ok Yes, d.written) P
      (λ g. decided_too_wide a b c (yes_of d.allowed f) g) (λ g. decided_yes a b c (yes_of d.allowed f) g)))))

  failure-wrote : (answer : Result Drawn Refusal) → is_failure answer ≡ true → wrote answer ≡ true
  failure-wrote (Ok x) e = absurd (false≢true e)
  failure-wrote (Err e) t = t

  -- where the outcome is Yes, the terminal's failure is none of these answers either
  decided_failure : (drawn_by target d).0 ≡ Ok Yes → (answer : Result Drawn Refusal) → is_failure answer ≡ true → Decided target d answer
  decided_failure was_yes answer broken =
      let e : Decided target d (Ok Yes) = subst (Decided target d) was_yes outcome_decided in
      let other = λ (x : Result Drawn Refusal) (fine : is_failure x ≡ false) (q : answer ≡ x). clash (is_failure answer) broken (ap is_failure q ∙ fine) in
      record {
        limited = ((λ q. absurd (other (Ok Limited) refl q)), (λ r. absurd (let q = e.limited.1 r in cc)));
        hidden = ((λ q. absurd (other (Ok Hidden) refl q)), (λ r. absurd (let q = e.hidden.1 r in cc)));
        no_columns = ((λ q. absurd (other (Err NoColumns) refl q)), (λ r. absurd (let q = e.no_columns.1 r in cc)));
        too_wide = ((λ q. absurd (other (Err TooWide) refl q)), (λ r. absurd (let q = e.too_wide.1 r in cc)));
        wrote_is = ((λ q. e.wrote_is.0 refl), (λ r. failure-wrote answer broken));
      }

-- ---- a call

module _ {S C A : Type 0} (m : Machine S C A) (target : Target) (s : S) (answer : A) (next : S) where
  call_decided : (deed : Deed S A) → Leads m target s deed answer next → (m.tells answer ≡ Err Memory → ⊥) → DecidedBy m target deed answer
  call_decided (AtOnce takes said after) (inl made) ample = ap (λ o. o.0) made
  call_decided (AtOnce takes said after) (inr short) ample = absurd (ample (ap m.tells short.0 ∙ m.tells_said (Err Memory)))
  call_decided (Draws d ends breaks) (inl made) ample =
      subst (Decided target d) (sym (ap (λ o. m.tells o.0) made ∙ m.tells_said (drawn_by target d).0)) (outcome_decided target d)
  call_decided (Draws d ends breaks) (inr (inl short)) ample = absurd (ample (ap m.tells short.0 ∙ m.tells_said (Err Memory)))
  call_decided (Draws d ends breaks) (inr (inr broken)) ample =
      decided_failure target d broken.2.0 (m.tells answer) (ap is_failure (ap m.tells broken.1 ∙ m.tells_said (Err (Failure broken.0))))

  drawn-ample : (d : Draw S) → (drawn_by target d).0 ≡ Err Memory → ⊥
  unfolding drawn_by
  drawn-ample d e =
      let P = λ (o : Result Drawn Refusal × S). o.0 ≡ Err Memory → ⊥ in
      cond_both (is_no d.ask) (Ok Limited, d.after_command) _ P (λ a. λ q. cc)
      (λ a. cond_both target.hidden (Ok Hidden, d.after_command) _ P (λ b. λ q. cc)
      (λ b. cond_both (target.columns == 0) (Err NoColumns, d.after_command) _ P (λ c. λ q. cc)
      (λ c. cond_both (not d.allowed) (Ok Limited, d.ready) _ P (λ f. λ q. cc)
      (λ f. cond_both (some_wide target.columns d.lines) (Err TooWide, d.ready) (Ok Yes, d.written) P (λ g. λ q. cc) (λ g. λ q. cc))))) e

  short_takes : (deed : Deed S A) → Leads m target s deed answer next → m.tells answer ≡ Err Memory → TakesMemory m target deed
  short_takes (AtOnce takes said after) (inl made) e = inr (sym (ap (λ o. m.tells o.0) made) ∙ e)
  short_takes (AtOnce takes said after) (inr short) e = inl short.1
  short_takes (Draws d ends breaks) (inl made) e = absurd (drawn-ample d (sym (ap (λ o. m.tells o.0) made ∙ m.tells_said (drawn_by target d).0) ∙ e))
  short_takes (Draws d ends breaks) (inr (inl short)) e = elim short.1 [
    | inl text ↦ rw text.0 refl
    | inr shown ↦ elim shown.1 [
      | inl lines ↦ rw (shown.0, lines.0) (or-true d.text_takes)
      | inr rows ↦ rw (shown.0, rows.0, rows.1, or-true d.lines_take) (or-true d.text_takes)
    ]
  ]
  short_takes (Draws d ends breaks) (inr (inr broken)) e = absurd (let q = sym (ap m.tells broken.1 ∙ m.tells_said (Err (Failure broken.0))) ∙ e in cc)

-- ---- faults

one_more : (n : ℕ) → (n + 1) % 2 ^ 64 ≡ n → ⊥
one_more n e = omega (arith, e)

faults_tell : (n m : ℕ) (failed : Bool) → m ≡ (if failed then ((n + 1) % 2 ^ 64) else n) → (failed ≡ true) ↔ (m ≡ n → ⊥)
faults_tell n m true e = ((λ t same. one_more n (sym e ∙ same)), (λ other. refl))
faults_tell n m false e = ((λ t. absurd (false≢true t)), (λ other. absurd (other e)))

same_view : (v w : TermView) → Some v ≡ Some w → v ≡ w
same_view v w e = cc

module _ (lines : List (List ℕ)) (l l' : Lists) (answer : Result Drawn Refusal) where
  fault_said : (old new : Option TermView) → WritesLinesOn old new lines l l' answer → (v v' : TermView) → old ≡ Some v → new ≡ Some v' → (is_failure answer ≡ true) ↔ (v'.faults ≡ v.faults → ⊥)
  fault_said None new w v v' e f = absurd (cc)
  fault_said (Some x) new w v v' e f =
      let before : x ≡ v = same_view x v e in
      let after : w.0 ≡ v' = same_view w.0 v' (sym w.1 ∙ f) in
      faults_tell v.faults v'.faults (is_failure answer)
      (ap (λ y. y.faults) (sym after) ∙ w.2.counted.faults_are ∙ ap (λ y. if is_failure answer then ((y.faults + 1) % 2 ^ 64) else y.faults) before)

  kind_said : (old new : Option TermView) → WritesLinesOn old new lines l l' answer → (k : ErrorKind) (v' : TermView) → answer ≡ Err (Failure k) → new ≡ Some v' → v'.kind ≡ k
  kind_said None new w k v' e f = absurd (let q : None ≡ Some v' = sym w ∙ f in cc)
  kind_said (Some x) new w k v' e f =
      let after : w.0 ≡ v' = same_view w.0 v' (sym w.1 ∙ f) in
      ap (λ y. y.kind) (sym after) ∙ w.2.counted.kind_is ∙ ap (λ a. if is_failure a then failure_kind a else x.kind) e

  silence_said : (old new : Option TermView) → WritesLinesOn old new lines l l' answer → wrote answer ≡ false → new ≡ old
  silence_said None new w quiet = w
  silence_said (Some x) new w quiet = w.1 ∙ ap Some (w.2.silent quiet)

pub each_says : {S C A : Type 0} (m : Machine S C A) → EachSays m
each_says m old new call s answer next made =
    let deed = deed_on m old call s in
    record {
      decided = call_decided m (target_of old) s answer next deed made.leads;
      memory = short_takes m (target_of old) s answer next deed made.leads;
      failed = fault_said (lines_by deed) (m.lists s) (m.lists next) (m.tells answer) old new made.writes;
      kind = kind_said (lines_by deed) (m.lists s) (m.lists next) (m.tells answer) old new made.writes;
      silent = silence_said (lines_by deed) (m.lists s) (m.lists next) (m.tells answer) old new made.writes;
    }
