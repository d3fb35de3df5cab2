use Rattle.std.proofs.Common.{◌≡◌, ℕ, List, [], ◌∷◌, ap, refl, sym, ◌∙◌}
use Rattle.std.proofs.lemmas.Bool.{false≢true}
use Rattle.std.specs.Prelude.{is_some}
use Rattle.indicatif_board.specs.Multi.{slots_of}
use Rattle.uses.proofs.orders.take_back_ownerless.Goals as goal

-- an order without a first bar has none
without_first : (order : List ℕ) → ((number : ℕ) (others : List ℕ) → order ≡ number ∷ others → ⊥) → order ≡ []
without_first [] headless = refl
without_first (number ∷ others) headless = absurd (headless number others refl)

pub returns : goal.returns
returns g c = λ nobody done. without_first (slots_of c.clear.new.self).order
    (λ number others first. false≢true (sym (ap is_some (c.clear.ensures.records number ∙ nobody number)) ∙ c.clear.ensures.head done number others first))
