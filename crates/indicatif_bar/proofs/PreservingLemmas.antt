-- What holds in each state that a call may lead to holds after it.
use Rattle.std.proofs.Common.{sym, ap, subst, inl, inr}
use Rattle.indicatif_bar.specs.Machines.{Target, Machine, Deed, AtOnce, Draws, Leads, drawn_by}
use Rattle.indicatif_bar.proofs.SoundRunLemmas.{drawn_keeps}

module _ {S C A : Type 0} (m : Machine S C A) (P : S → Type 0) where
  -- it is so in each state that a call may lead to
  abbrev pub IsPreserved : Deed S A → Type 0
  IsPreserved (AtOnce takes answer next) = P next
  IsPreserved (Draws d ends breaks) = P d.after_command × P d.ready × P d.written × P d.broken × ((x : S) → P x → P (ends x)) × ((x : S) → P x → P (breaks x))

  pub leads_preserve : (target : Target) (s next : S) (deed : Deed S A) (answer : A) → IsPreserved deed → Leads m target s deed answer next → P s → P next
  leads_preserve target s next (AtOnce takes said after) answer keeps (inl made) is = subst P (sym (ap (λ o. o.1) made)) keeps
  leads_preserve target s next (AtOnce takes said after) answer keeps (inr short) is = subst P (sym short.2) is
  leads_preserve target s next (Draws d ends breaks) answer keeps (inl made) is =
      subst P (sym (ap (λ o. o.1) made)) (keeps.4 (drawn_by target d).1 (drawn_keeps P target d keeps.0 keeps.1 keeps.2))
  leads_preserve target s next (Draws d ends breaks) answer keeps (inr (inl short)) is = elim short.1 [
    | inl text ↦ subst P (sym text.1) (keeps.5 s is)
    | inr shown ↦ elim shown.1 [
      | inl lines ↦ subst P (sym lines.1) (keeps.5 d.after_command keeps.0)
      | inr rows ↦ subst P (sym rows.2) (keeps.5 d.ready keeps.1)
    ]
  ]
  leads_preserve target s next (Draws d ends breaks) answer keeps (inr (inr broken)) is = subst P (sym broken.2.1) (keeps.5 d.broken keeps.3)
