-- A borrow that ends with what is known of its lender ends with less that is known of it, so that a method may say more than its trait.
use Rattle.std.specs.Prelude.{⊤}
use base.Logic.{SProp, ent, sep, emp, all, wand, ex_i, ex_e, all_i, wand_i, via, mono_r, emp∗, snd∗}
use base.Fml.{GName}
use borrow.Fn.Refines.{Gives, Turns}
use denote.Follow.{follows_if, follows_so, such_by}
use denote.RattleType.{RattleType}
use mathlib.Core.Option.{none}
use seplogic.Ra.Ura.{Ura}
use types.Logic.{Logic, sem}

pub rests-less : {M : Type 1} {𝓤 : Ura M} (𝓛 : Logic 𝓤) (R : RattleType) (γ : GName) (P Q : R.Denot → Type 0) → ((d : R.Denot) → P d → Q d)
    → ent 𝓤 (sem 𝓛 (follows_so R R γ none (λ _ _. ⊤) P)) (sem 𝓛 (follows_so R R γ none (λ _ _. ⊤) Q))
unfolding such_by
rests-less {𝓤 = 𝓤} 𝓛 R γ P Q less = ex_e 𝓤 _ (λ s. ex_i 𝓤 (λ (y : (p : (R.Denot → R.Denot) × R.Denot) × ((z : R.Denot) → ⊤) × Q p.1). sem 𝓛 (follows_if R R γ none y.0.0 y.0.1))
    (s.0, s.1, less s.0.1 s.2))

module _ {M : Type 1} (𝓤 : Ura M) (R X : Type 0) (A B : R → X → SProp 𝓤) where
  abbrev Three : (R → X → SProp 𝓤) → R → X → SProp 𝓤
  Three D r e = sep 𝓤 (A r e) (sep 𝓤 (B r e) (D r e))

  pub third-turns : (C C' : R → X → SProp 𝓤) → ((r : R) (e : X) → ent 𝓤 (C r e) (C' r e))
      → Gives 𝓤 (emp 𝓤) (Unit {0}) (λ g. emp 𝓤) (λ g. Turns 𝓤 R X (λ r e. sep 𝓤 (A r e) (sep 𝓤 (B r e) (C r e))) (λ r e. sep 𝓤 (A r e) (sep 𝓤 (B r e) (C' r e))))
  third-turns C C' less =
      let W : SProp 𝓤 = Turns 𝓤 R X (Three C) (Three C') in
      let kept : ent 𝓤 (emp 𝓤) W = all_i 𝓤 (λ (r : R). all 𝓤 (λ (e : X). wand 𝓤 (Three C r e) (Three C' r e))) (λ r. all_i 𝓤 (λ (e : X). wand 𝓤 (Three C r e) (Three C' r e)) (λ e.
      wand_i 𝓤 (emp 𝓤) (Three C r e) (Three C' r e) (via 𝓤 (Three C r e) (snd∗ 𝓤 (emp 𝓤) (Three C r e)) (mono_r 𝓤 (A r e) (mono_r 𝓤 (B r e) (less r e)))))) in
      via 𝓤 (sep 𝓤 (emp 𝓤) W) (via 𝓤 W kept (emp∗ 𝓤 W)) (ex_i 𝓤 (λ (g : Unit {0}). sep 𝓤 (emp 𝓤) W) tt)
