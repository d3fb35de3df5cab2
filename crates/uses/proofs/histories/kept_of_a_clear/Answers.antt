use Rattle.std.proofs.Common.{◌≡◌, List, ◌++◌, ◌∷◌, [], ap, inl, inr, length, sym, ◌∙◌}
use Rattle.std.proofs.lemmas.List.{length-map}
use Rattle.indicatif_board.specs.Recorded.{step_of}
use Rattle.uses.proofs.histories.kept_of_a_clear.Goals as goal

-- what was added to nothing is one
first_one : {A : Type 0} (old new : List A) (x : A) → new ≡ old ++ x ∷ [] → old ≡ [] → length new ≡ 1
first_one old new x added none = ap length added ∙ ap (λ xs. length (xs ++ x ∷ [])) none

pub returns : goal.returns
returns c = elim c.apply.ensures.grows [
  | inl adds ↦ sym (length-map c.entries.result.now step_of) ∙ ap length c.entries.ensures ∙ first_one _ _ _ adds.steps c.new-history.ensures.steps
  | inr turned ↦ absurd (c.in_default.not-Refused _ turned.1)
]
