-- Where no call of a machine forgets its rows but one that the terminal broke off, they are read after a run that it didn't break off.
use Rattle.std.proofs.Common.{◌≡◌, ℕ, false, List, [], ◌∷◌, sym, ◌∙◌, ap, Result, Ok, Err, Option, Some, inl, inr}
use Rattle.std.specs.Prelude.{IsFalse, not, ◌==◌}
use Rattle.std.specs.List.{list_any}
use Rattle.std.proofs.lemmas.Bool.{cond_both, false≢true, or_parts}
use Rattle.indicatif_text.specs.declared.refusal.Refusal.{Refusal}
use Rattle.indicatif_text.specs.declared.refusal.Refusal.TheVariants.{NoColumns, TooWide, Terminal as Failure}
use Rattle.indicatif_text.specs.declared.refusal.Drawn.{Drawn}
use Rattle.indicatif_text.specs.declared.refusal.Drawn.TheVariants.{Yes, Limited, Hidden}
use Rattle.indicatif_term.specs.Calls.{TermView}
use Rattle.indicatif_term.specs.Lines.{some_wide}
use Rattle.indicatif_term.specs.Engines.{is_failure}
use Rattle.indicatif_bar.specs.Machines.{Target, target_of, Machine, Draw, Deed, AtOnce, Draws, Leads, is_no, drawn_by}
use Rattle.indicatif_bar.specs.Runs.{Runs, broke, ReadsAfter}
use Rattle.indicatif_bar.proofs.RunLemmas.{read_after}

module _ {S : Type 0} (P : S → Type 0) where
  -- what holds wherever a draw may end holds where it does
  pub drawn_keeps : (target : Target) (d : Draw S) → P d.after_command → P d.ready → P d.written → P (drawn_by target d).1
  unfolding drawn_by
  drawn_keeps target d numbers ready written =
      let Q = λ (o : Result Drawn Refusal × S). P o.1 in
      cond_both (is_no d.ask) (Ok Limited, d.after_command) _ Q (λ a. numbers)
      (λ a. cond_both target.hidden (Ok Hidden, d.after_command) _ Q (λ b. numbers)
      (λ b. cond_both (target.columns == 0) (Err NoColumns, d.after_command) _ Q (λ c. numbers)
      (λ c. cond_both (not d.allowed) (Ok Limited, d.ready) _ Q (λ e. ready)
      (λ e. cond_both (some_wide target.columns d.lines) (Err TooWide, d.ready) (Ok Yes, d.written) Q (λ f. ready) (λ f. written)))))

module _ {S C A : Type 0} (m : Machine S C A) where
  -- the rows aren't forgotten
  abbrev pub Sound : S → Type 0
  Sound x = (m.lists x).failed ≡ false

  -- a draw forgets none on its way to the end
  pub record DrawsSoundly (s : S) (d : Draw S) : Type 0 where
    pub numbers : Sound s → Sound d.after_command
    pub ready : Sound s → Sound d.ready
    pub written : Sound s → Sound d.written

  -- nor does a call
  abbrev pub GoesSoundly : S → Deed S A → Type 0
  GoesSoundly s (AtOnce takes answer next) = Sound s → Sound next
  GoesSoundly s (Draws d ends breaks) = DrawsSoundly s d × ((x : S) → Sound x → Sound (ends x)) × ((x : S) → Sound x → Sound (breaks x))

  leads_soundly : (target : Target) (s next : S) (deed : Deed S A) (answer : A) → GoesSoundly s deed → Leads m target s deed answer next → is_failure (m.tells answer) ≡ false → Sound s → Sound next
  leads_soundly target s next (AtOnce takes said after) answer goes (inl made) fine sound = ap (λ o. (m.lists o.1).failed) made ∙ goes sound
  leads_soundly target s next (AtOnce takes said after) answer goes (inr short) fine sound = ap (λ x. (m.lists x).failed) short.2 ∙ sound
  leads_soundly target s next (Draws d ends breaks) answer goes (inl made) fine sound =
      ap (λ o. (m.lists o.1).failed) made ∙ goes.1 (drawn_by target d).1 (drawn_keeps Sound target d (goes.0.numbers sound) (goes.0.ready sound) (goes.0.written sound))
  leads_soundly target s next (Draws d ends breaks) answer goes (inr (inl short)) fine sound = elim short.1 [
    | inl text ↦ ap (λ x. (m.lists x).failed) text.1 ∙ goes.2 s sound
    | inr shown ↦ elim shown.1 [
      | inl lines ↦ ap (λ x. (m.lists x).failed) lines.1 ∙ goes.2 d.after_command (goes.0.numbers sound)
      | inr rows ↦ ap (λ x. (m.lists x).failed) rows.2 ∙ goes.2 d.ready (goes.0.ready sound)
    ]
  ]
  leads_soundly target s next (Draws d ends breaks) answer goes (inr (inr broken)) fine sound =
      absurd (false≢true (sym fine ∙ ap (λ a. is_failure (m.tells a)) broken.1 ∙ ap is_failure (m.tells_said (Err (Failure broken.0)))))

  module _ (goes : (target : Target) (call : C) (now : ℕ) (s : S) → GoesSoundly s (m.deed target call now s)) where
    pub runs_soundly : (calls : List (C × ℕ)) (answers : List A) (old : Option TermView) (s : S) (new : Option TermView) (next : S) →
        Runs m calls answers old s new next → list_any (broke m) answers ≡ false → Sound s → Sound next
    runs_soundly [] [] old s new next run fine sound = ap (λ x. (m.lists x).failed) run.1 ∙ sound
    runs_soundly (call ∷ calls) (answer ∷ answers) old s new next run fine sound =
        let p = or_parts (broke m answer) (list_any (broke m) answers) fine in
        runs_soundly calls answers run.0 run.1 new next run.3 p.1
        (leads_soundly (target_of old) s run.1 (m.deed (target_of old) call.0 call.1 s) answer (goes (target_of old) call.0 call.1 s) run.2.leads p.0 sound)
    runs_soundly [] (answer ∷ answers) old s new next run fine sound = absurd run
    runs_soundly (call ∷ calls) [] old s new next run fine sound = absurd run

    pub sound_read_after : (calls : List (C × ℕ)) (answers : List A) (v : TermView) (s : S) (new : Option TermView) (next : S) →
        IsFalse (m.lists s).failed → ReadsAfter m calls answers v s new next
    sound_read_after calls answers v s new next sound = λ run unbroken plain opening starts.
        read_after m calls answers v s new next sound (runs_soundly calls answers (Some v) s new next run unbroken sound) run unbroken plain opening starts
