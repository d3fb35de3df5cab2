-- What a whole loop makes of a bar that tells where it stands.
use Rattle.std.proofs.Common.{◌≡◌, ℕ, suc, List, [], ◌∷◌, length, ◌+◌, ◌%◌, ◌<◌, ◌⊎◌, Option, Some, None, IfSome, Result, Err, true, false, true≢false, inl, inr, ⊎_elim, sym, ap, subst, ◌∙◌, arith}
use Rattle.std.proofs.Math.Nat.{mod-add-mod}
use Rattle.std.specs.Iterator.{Yields, YieldsThen}
use Rattle.indicatif_text.specs.declared.refusal.Drawn.{Drawn}
use Rattle.indicatif_text.specs.declared.refusal.Refusal.{Refusal}
use Rattle.indicatif_text.specs.declared.refusal.Refusal.TheVariants.{Memory}
use Rattle.indicatif.specs.declared.wrappers.wrap.ProgressBarIter.{ProgressBarIter}
use Rattle.indicatif.specs.Moves.{Standing, Goes, after_bar_move, Move, Advance, Finish}
use Rattle.indicatif.specs.Wrap.{inner_of, last_draw_of, CountsItem, NextGives}

-- the bar at another position
abbrev pub at_position : Standing → ℕ → Standing
at_position bar position = record bar { position = position }

module _ {T P : Type 0} (told : P → Option Standing) (leads : P → Move → Result Drawn Refusal → P → Type 0) where
  -- the bar is finished from this position, or stays there for want of memory
  abbrev pub EndsAt : Standing → ProgressBarIter T P → ℕ → Type 0
  EndsAt bar t position =
      (told t.progress ≡ Some (after_bar_move (at_position bar position) Finish))
      ⊎ ((last_draw_of t ≡ Some (Err Memory)) × (told t.progress ≡ Some (at_position bar position)))

  module _ {A : Type 0} (gives : T → Option A → T → Type 0) where
    -- the items are the inner one's
    pub loop-inner : (items : List A) (s m : ProgressBarIter T P) → Yields (NextGives told leads gives) s items m → Yields gives (inner_of s) items (inner_of m)
    loop-inner [] s m same = ap inner_of same
    loop-inner (x ∷ items) s m along = (inner_of along.0, along.1.0, loop-inner items along.0 m along.2)

    loop-told : (items : List A) (bar : Standing) (s m t : ProgressBarIter T P) → told s.progress ≡ Some bar → Yields (NextGives told leads gives) s items m
        → CountsItem told leads false m t → bar.position < 18446744073709551616
        → bar.finished ≡ false → EndsAt bar t ((bar.position + length items) % 18446744073709551616)
    loop-told [] bar s m t before same end fits going =
        let none : bar.position ≡ (bar.position + 0) % 18446744073709551616 = omega (arith, fits) in
        let is : told m.progress ≡ Some bar = subst (λ w. told w.progress ≡ Some bar) same before in
        ⊎_elim
        (λ made.
        let goes = subst (λ o. Goes o Finish made.0.answer (told t.progress)) is made.0.goes in
        subst (EndsAt bar t) none (⊎_elim inl (λ stays. inr (made.0.last ∙ ap Some stays.0, stays.1)) goes))
        (λ kept. absurd (true≢false (sym (subst (λ o. IfSome o (λ b. b.finished ≡ true)) is kept.1) ∙ going)))
        end
    loop-told (x ∷ items) bar s m t is along end fits going =
        let next : Standing = after_bar_move bar (Advance 1) in
        let made = along.1.1.0 in
        let went : told along.0.progress ≡ Some next = subst (λ o. Goes o (Advance 1) made.answer (told along.0.progress)) is made.goes in
        let rest = loop-told items next along.0 m t went along.2 end (omega arith) going in
        let one_more : bar.position + 1 + length items ≡ bar.position + suc (length items) = omega arith in
        let sum : ((bar.position + 1) % 18446744073709551616 + length items) % 18446744073709551616 ≡ (bar.position + suc (length items)) % 18446744073709551616 =
        mod-add-mod (bar.position + 1) 18446744073709551616 (length items) ∙ ap (λ p. p % 18446744073709551616) one_more in
        subst (EndsAt bar t) sum rest

    pub loop-goes : (items : List A) (s t : ProgressBarIter T P) (o : Option Standing) → told s.progress ≡ o → YieldsThen (NextGives told leads gives) s items None t
        → IfSome o (λ bar. bar.position < 18446744073709551616 → bar.finished ≡ false → EndsAt bar t ((bar.position + length items) % 18446744073709551616))
    loop-goes items s t None is loops = tt
    loop-goes items s t (Some bar) is loops = loop-told items bar s loops.0 t is loops.1 loops.2.1
