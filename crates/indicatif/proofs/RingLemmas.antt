-- What is kept of a list of updates is its last ones.
use Rattle.std.proofs.Common.{◌≡◌, ℕ, suc, zero, List, [], ◌∷◌, take, fold, reverse, refl, sym, ap, ◌∙◌}
use Rattle.indicatif.specs.Ring.{last_updates}

cut_less : (n : ℕ) (xs : List ℕ) → take n (take (suc n) xs) ≡ take n xs
cut_less zero xs = refl
cut_less (suc n) [] = refl
cut_less (suc n) (x ∷ xs) = ap (λ l. x ∷ l) (cut_less n xs)

-- a list that was cut takes one more as the whole list does
cut_again : (n : ℕ) (x : ℕ) (xs : List ℕ) → take n (x ∷ take n xs) ≡ take n (x ∷ xs)
cut_again zero x xs = refl
cut_again (suc n) x xs = ap (λ l. x ∷ l) (cut_less n xs)

last_from : (n : ℕ) (places updates : List ℕ) → fold (λ ps p. take n (p ∷ ps)) (take n places) updates ≡ take n (fold (λ ps p. p ∷ ps) places updates)
last_from n places [] = refl
last_from n places (u ∷ us) = ap (λ l. fold (λ ps p. take n (p ∷ ps)) l us) (cut_again n u places) ∙ last_from n (u ∷ places) us

take_nil : (n : ℕ) → take {A = ℕ} n [] ≡ []
take_nil zero = refl
take_nil (suc n) = refl

pub last-all : (n : ℕ) (updates : List ℕ) → last_updates n updates ≡ take n (reverse updates)
last-all n updates = ap (λ l. fold (λ ps p. take n (p ∷ ps)) l updates) (sym (take_nil n)) ∙ last_from n [] updates
