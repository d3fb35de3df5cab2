-- What advances one after another make of a bar: their sum, and moves.
use Rattle.std.proofs.Common.{◌≡◌, ℕ, ◌+◌, ◌%◌, ◌<◌, List, [], ◌∷◌, map, Option, Some, None, IfSome, Result, ap, subst, ◌∙◌, arith}
use Rattle.std.specs.Prelude.{sum}
use Rattle.std.proofs.Math.Nat.{mod-add-mod}
use Rattle.std.proofs.lemmas.List.Sums.{sum_by-cons}
use Rattle.indicatif_text.specs.declared.refusal.Drawn.{Drawn}
use Rattle.indicatif_text.specs.declared.refusal.Refusal.{Refusal}
use Rattle.indicatif.specs.Moves.{Standing, Goes, MovedAlong, after_bar_move, Move, Advance}
use Rattle.indicatif.specs.Parallel.{AdvancedAlong, Blocks}
use Rattle.indicatif.proofs.LoopLemmas.{at_position}

module _ {P : Type 0} (told : P → Option Standing) (leads : P → Move → Result Drawn Refusal → P → Type 0) where
  along-told : (made : List (ℕ × Result Drawn Refusal)) (bar : Standing) (p q : P) → told p ≡ Some bar → bar.position < 18446744073709551616 → AdvancedAlong told leads made p q
      → told q ≡ Some (at_position bar ((bar.position + sum (map (λ x. x.0) made)) % 18446744073709551616))
  along-told [] bar p q is fits same =
      let none : bar.position ≡ (bar.position + 0) % 18446744073709551616 = omega (arith, fits) in
      ap told same ∙ is ∙ ap (λ k. Some (at_position bar k)) none
  along-told (m ∷ made) bar p q is fits along =
      let next : Standing = after_bar_move bar (Advance m.0) in
      let went : told along.0 ≡ Some next = subst (λ o. Goes o (Advance m.0) m.1 (told along.0)) is along.2 in
      let rest = along-told made next along.0 q went (omega arith) along.3 in
      let others = sum (map (λ x. x.0) made) in
      let more : bar.position + m.0 + others ≡ bar.position + sum (m.0 ∷ map (λ x. x.0) made) = omega (arith, sum_by-cons (λ k. k) m.0 (map (λ x. x.0) made)) in
      let whole : ((bar.position + m.0) % 18446744073709551616 + others) % 18446744073709551616 ≡ (bar.position + sum (m.0 ∷ map (λ x. x.0) made)) % 18446744073709551616 =
      mod-add-mod (bar.position + m.0) 18446744073709551616 others ∙ ap (λ k. k % 18446744073709551616) more in
      rest ∙ ap (λ k. Some (at_position bar k)) whole

  pub blocks-told : (items : ℕ) (p q : P) (o : Option Standing) → told p ≡ o → Blocks told leads p items q
      → IfSome o (λ bar. bar.position < 18446744073709551616 → told q ≡ Some (after_bar_move bar (Advance items)))
  blocks-told items p q None is blocks = tt
  blocks-told items p q (Some bar) is blocks = λ fits.
      along-told blocks.made bar p q is fits blocks.along ∙ ap (λ n. Some (at_position bar ((bar.position + n) % 18446744073709551616))) blocks.total

  pub along-moves : (made : List (ℕ × Result Drawn Refusal)) (p q : P) → AdvancedAlong told leads made p q → MovedAlong leads (map (λ x. (Advance x.0, x.1)) made) p q
  along-moves [] p q same = same
  along-moves (m ∷ made) p q along = (along.0, along.1, along-moves made along.0 q along.3)
