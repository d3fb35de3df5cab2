-- Sums over the accounts of all workers: what one account's change, one more account and the whole share in one hand do to them.
use Rattle.std.proofs.Common.{◌≡◌, ℕ, zero, suc, ◌+◌, ◌%◌, ◌≤◌, List, [], ◌∷◌, set, All, sum_by, sym, refl, ap, ⊎_elim, subst, arith}
use Rattle.std.proofs.lemmas.List.Sums.{sum_by-cons}
use mathlib.Core.Option.{some, some-injective, some-ne-none}
use lib.ListN.{get_elem?}
use Rattle.atomic_table.proofs.Lists.{at_set}
use Rattle.indicatif_board.specs.declared.done.Account.{Account}
use Rattle.indicatif_board.specs.Done.{all_added, all_parts, IsFair, AddsUp}

module _ {X : Type 0} (P : X → Type 0) where
  pub All-at : (xs : List X) (i : ℕ) (x : X) → All P xs → get_elem? xs i ≡ some x → P x
  All-at [] i x all at = absurd (some-ne-none x (sym at))
  All-at (y ∷ ys) zero x all at = subst P (some-injective y x at) (all 0 x (omega arith))
  All-at (y ∷ ys) (suc i) x all at = All-at ys i x (λ k d lt. all (suc k) d (omega (arith, lt))) at

  pub All-from_at : (xs : List X) → ((i : ℕ) (x : X) → get_elem? xs i ≡ some x → P x) → All P xs
  All-from_at [] each k d lt = absurd (omega (arith, lt))
  All-from_at (y ∷ ys) each zero d lt = each 0 y refl
  All-from_at (y ∷ ys) each (suc k) d lt = All-from_at ys (λ i x at. each (suc i) x at) k d (omega (arith, lt))

pub sum_by-set_at : (f : Account → ℕ) (vs : List Account) (i : ℕ) (v w : Account) → get_elem? vs i ≡ some v → sum_by f (set vs i w) + f v ≡ sum_by f vs + f w
sum_by-set_at f [] i v w e = absurd (some-ne-none v (sym e))
sum_by-set_at f (x ∷ xs) zero v w e =
    let same : f x ≡ f v = ap f (some-injective x v e) in
    let new : sum_by f (w ∷ xs) ≡ f w + sum_by f xs = sum_by-cons f w xs in
    let old : sum_by f (x ∷ xs) ≡ f x + sum_by f xs = sum_by-cons f x xs in
    omega (arith, same, new, old)
sum_by-set_at f (x ∷ xs) (suc i) v w e =
    let rest : sum_by f (set xs i w) + f v ≡ sum_by f xs + f w = sum_by-set_at f xs i v w e in
    let new : sum_by f (x ∷ set xs i w) ≡ f x + sum_by f (set xs i w) = sum_by-cons f x (set xs i w) in
    let old : sum_by f (x ∷ xs) ≡ f x + sum_by f xs = sum_by-cons f x xs in
    omega (arith, rest, new, old)

pub at_most_sum_by : (f : Account → ℕ) (vs : List Account) (i : ℕ) (v : Account) → get_elem? vs i ≡ some v → f v ≤ sum_by f vs
at_most_sum_by f [] i v e = absurd (some-ne-none v (sym e))
at_most_sum_by f (x ∷ xs) zero v e =
    let same : f x ≡ f v = ap f (some-injective x v e) in
    let whole : sum_by f (x ∷ xs) ≡ f x + sum_by f xs = sum_by-cons f x xs in
    omega (arith, same, whole)
at_most_sum_by f (x ∷ xs) (suc i) v e =
    let rest : f v ≤ sum_by f xs = at_most_sum_by f xs i v e in
    let whole : sum_by f (x ∷ xs) ≡ f x + sum_by f xs = sum_by-cons f x xs in
    omega (arith, rest, whole)

-- without a share nothing was added
abbrev pub IdleAddedNothing : List Account → Type 0
IdleAddedNothing vs = (id : ℕ) (u : Account) → get_elem? vs id ≡ some u → u.parts ≡ 0 → u.added ≡ 0

pub all_added-no_parts : (vs : List Account) → all_parts vs ≡ 0 → IdleAddedNothing vs → all_added vs ≡ 0
all_added-no_parts [] p i = refl
all_added-no_parts (x ∷ xs) p i =
    let parts : all_parts (x ∷ xs) ≡ x.parts + all_parts xs = sum_by-cons (λ a. a.parts) x xs in
    let added : all_added (x ∷ xs) ≡ x.added + all_added xs = sum_by-cons (λ a. a.added) x xs in
    let here : x.added ≡ 0 = i 0 x refl (omega (arith, parts, p)) in
    let rest : all_added xs ≡ 0 = all_added-no_parts xs (omega (arith, parts, p)) (λ id u e. i (suc id) u e) in
    omega (arith, added, here, rest)

-- who has all parts added all that was added
pub all_added-one_has_all : (vs : List Account) (id : ℕ) (v : Account) → get_elem? vs id ≡ some v → all_parts vs ≡ v.parts → IdleAddedNothing vs → all_added vs ≡ v.added
all_added-one_has_all [] id v e p i = absurd (some-ne-none v (sym e))
all_added-one_has_all (x ∷ xs) zero v e p i =
    let parts : all_parts (x ∷ xs) ≡ x.parts + all_parts xs = sum_by-cons (λ a. a.parts) x xs in
    let added : all_added (x ∷ xs) ≡ x.added + all_added xs = sum_by-cons (λ a. a.added) x xs in
    let its_added : x.added ≡ v.added = ap (λ (k : Account). k.added) (some-injective x v e) in
    let its_parts : x.parts ≡ v.parts = ap (λ (k : Account). k.parts) (some-injective x v e) in
    let rest : all_added xs ≡ 0 = all_added-no_parts xs (omega (arith, parts, p, its_parts)) (λ id u g. i (suc id) u g) in
    omega (arith, added, its_added, rest)
all_added-one_has_all (x ∷ xs) (suc id) v e p i =
    let parts : all_parts (x ∷ xs) ≡ x.parts + all_parts xs = sum_by-cons (λ a. a.parts) x xs in
    let added : all_added (x ∷ xs) ≡ x.added + all_added xs = sum_by-cons (λ a. a.added) x xs in
    let most : v.parts ≤ all_parts xs = at_most_sum_by (λ a. a.parts) xs id v e in
    let none : x.parts ≡ 0 = omega (arith, parts, p, most) in
    let here : x.added ≡ 0 = i 0 x refl none in
    let rest : all_added xs ≡ v.added = all_added-one_has_all xs id v e (omega (arith, parts, p, most)) (λ id u g. i (suc id) u g) in
    omega (arith, added, here, rest)

-- one account becomes another with the same share, which takes nothing back
pub AddsUp-set : (words after : List ℕ) (vs : List Account) (id : ℕ) (v w : Account)
    → AddsUp words vs
    → get_elem? vs id ≡ some v
    → after ≡ all_added (set vs id w) % 18446744073709551616 ∷ []
    → w.parts ≡ v.parts
    → v.added ≤ w.added
    → IsFair (all_added (set vs id w)) w
    → AddsUp after (set vs id w)
AddsUp-set words after vs id v w k at is same up sound =
    let s : all_added (set vs id w) + v.added ≡ all_added vs + w.added = sum_by-set_at (λ a. a.added) vs id v w at in
    let p : all_parts (set vs id w) + v.parts ≡ all_parts vs + w.parts = sum_by-set_at (λ a. a.parts) vs id v w at in (
      is,
      omega (arith, p, same, k.1),
      All-from_at (IsFair (all_added (set vs id w))) (set vs id w)
          (λ j u e.
          ⊎_elim
          (λ h. subst (IsFair (all_added (set vs id w))) h.1 sound)
          (λ h. let o = All-at (IsFair (all_added vs)) vs j u k.2 h.1 in (o.0, omega (arith, o.1, s, up), o.2))
          (at_set vs id j w u e)),
    )
