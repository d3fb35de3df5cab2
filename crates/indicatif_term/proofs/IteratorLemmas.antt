-- The items that an iterator gave, and those still to come, are all its items.
use Rattle.std.proofs.Common.{◌≡◌, List, [], ◌∷◌, ◌++◌, map, refl, sym, ◌∙◌, ap, subst, append_assoc, append-nil, Option, Some, None}
use Rattle.std.specs.Iterator.{Yields, AlwaysYields}
use Rattle.std.proofs.lemmas.List.{map-append}

module _ {S A B : Type 0} (steps : S → Option A → S → Type 0) (v : A → B) where
  -- the items that came, and those to come
  pub record IsParted (all : List B) (came : List A) (now : S) : Type 0 where
    pub left : List B
    pub whole : all ≡ map v came ++ left
    pub yields : AlwaysYields steps v now left

  pub parted : (all : List B) (s : S) (came : List A) (now : S) → AlwaysYields steps v s all → Yields steps s came now → IsParted all came now
  parted all s [] now a e = record { left = all; whole = refl; yields = subst (λ s. AlwaysYields steps v s all) e a }
  parted [] s (x ∷ came) now a y = absurd (a x y.0 y.1)
  parted (z ∷ all) s (x ∷ came) now a y =
      let b = a.1 x y.0 y.1 in
      let p = parted all y.0 came now b.1 y.2 in
      record { left = p.left; whole = ap (λ w. w ∷ all) (sym b.0) ∙ ap (λ ys. v x ∷ ys) p.whole; yields = p.yields }

  after_one : (all : List B) (came : List A) (x : A) (s t : S) (left : List B) → all ≡ map v came ++ left → AlwaysYields steps v s left → steps s (Some x) t →
      (rest : List B) × (all ≡ map v (came ++ x ∷ []) ++ rest)
  after_one all came x s t [] e a q = absurd (a x t q)
  after_one all came x s t (y ∷ left) e a q =
      let b = a.1 x t q in
      (left, e ∙ ap (λ z. map v came ++ z ∷ left) (sym b.0) ∙ sym (ap (λ ys. ys ++ left) (map-append v came (x ∷ [])) ∙ append_assoc (map v came) (v x ∷ []) left))

  -- one more item, and some others
  pub next_came : (all : List B) (came : List A) (x : A) (s t : S) → IsParted all came s → steps s (Some x) t → (rest : List B) × (all ≡ map v (came ++ x ∷ []) ++ rest)
  next_came all came x s t p q = after_one all came x s t p.left p.whole p.yields q

  none_left : (all : List B) (came : List A) (s t : S) (left : List B) → all ≡ map v came ++ left → AlwaysYields steps v s left → steps s None t → all ≡ map v came
  none_left all came s t [] e a q = e ∙ append-nil (map v came)
  none_left all came s t (y ∷ left) e a q = absurd (a.0 t q)

  -- no more items
  pub all_came : (all : List B) (came : List A) (s t : S) → IsParted all came s → steps s None t → all ≡ map v came
  all_came all came s t p q = none_left all came s t p.left p.whole p.yields q
