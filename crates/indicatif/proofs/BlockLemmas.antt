-- A block more: of the bar's advances, and of the list and its results.
use Rattle.std.proofs.Common.{◌≡◌, ℕ, zero, suc, ◌+◌, ◌≤◌, ◌<◌, List, [], ◌∷◌, ◌++◌, map, take, drop, Option, Result, refl, sym, ap, subst, ◌∙◌, arith}
use Rattle.std.specs.Prelude.{sum}
use Rattle.std.specs.List.{AllByRecursion, AllZip}
use Rattle.std.proofs.lemmas.List.{map-append}
use Rattle.rayon.proofs.ListFacts.{AllZip-append, sum-append}
use Rattle.indicatif_text.specs.declared.refusal.Drawn.{Drawn}
use Rattle.indicatif_text.specs.declared.refusal.Refusal.{Refusal}
use Rattle.indicatif.specs.Moves.{Standing, Goes, Move, Advance}
use Rattle.indicatif.specs.Parallel.{AdvancedAlong, Blocks, block_length}

sum_more : (ns : List ℕ) (n : ℕ) → sum (ns ++ n ∷ []) ≡ sum ns + n
sum_more ns n = let e : sum (n ∷ []) ≡ n = omega arith in sum-append ns (n ∷ []) ∙ ap (λ k. sum ns + k) e

all_more : (Q : ℕ → Type 0) (ns : List ℕ) (n : ℕ) → Q n → AllByRecursion Q ns → AllByRecursion Q (ns ++ n ∷ [])
all_more Q [] n holds all = (holds, tt)
all_more Q (m ∷ ns) n holds all = (all.0, all_more Q ns n holds all.1)

module _ {P : Type 0} (told : P → Option Standing) (leads : P → Move → Result Drawn Refusal → P → Type 0) where
  along_more : (made : List (ℕ × Result Drawn Refusal)) (p q r : P) (n : ℕ) (d : Result Drawn Refusal) → AdvancedAlong told leads made p q
      → leads q (Advance n) d r → Goes (told q) (Advance n) d (told r)
      → AdvancedAlong told leads (made ++ (n, d) ∷ []) p r
  along_more [] p q r n d went led goes = (r, subst (λ o. leads o (Advance n) d r) went led, subst (λ o. Goes (told o) (Advance n) d (told r)) went goes, refl)
  along_more (m ∷ made) p q r n d went led goes = (went.0, went.1, went.2, along_more made went.0 q r n d went.3 led goes)

  pub blocks_more : (p q r : P) (at n : ℕ) → 0 < n → n ≤ block_length → Blocks told leads p at q
      → (d : Result Drawn Refusal) → leads q (Advance n) d r → Goes (told q) (Advance n) d (told r)
      → Blocks told leads p (at + n) r
  blocks_more p q r at n some small b d led goes =
      let sizes : map (λ x. x.0) (b.made ++ (n, d) ∷ []) ≡ map (λ x. x.0) b.made ++ n ∷ [] = map-append (λ x. x.0) b.made ((n, d) ∷ []) in
      record {
        made = b.made ++ (n, d) ∷ [];
        along = along_more b.made p q r n d b.along led goes;
        total = ap sum sizes ∙ sum_more (map (λ x. x.0) b.made) n ∙ ap (λ k. k + n) b.total;
        sizes = subst (AllByRecursion (λ k. (0 < k) × (k ≤ block_length))) (sym sizes) (all_more (λ k. (0 < k) × (k ≤ block_length)) (map (λ x. x.0) b.made) n (some, small) b.sizes);
      }

module _ {X : Type 0} where
  take_none : (n : ℕ) → take {A = X} n [] ≡ []
  take_none zero = refl
  take_none (suc n) = refl

  pub take_split : (m n k : ℕ) (xs : List X) → k ≡ m + n → take k xs ≡ take m xs ++ take n (drop m xs)
  take_split zero n k xs e =
      let f : k ≡ n = omega arith in
      ap (λ j. take j xs) f
  take_split (suc m) n k [] e = take_none k ∙ sym (take_none n)
  take_split (suc m) n k (x ∷ xs) e =
      let f : k ≡ suc (m + n) = omega arith in
      ap (λ j. take j (x ∷ xs)) f ∙ ap (λ l. x ∷ l) (take_split m n (m + n) xs refl)

module _ {X Y : Type 0} (R : X → Y → Type 0) where
  -- the answers at items that were cut in two
  pub zip_both : (items front back : List X) (ys zs all : List Y) → items ≡ front ++ back → all ≡ ys ++ zs
      → AllZip R front ys → AllZip R back zs → AllZip R items all
  zip_both items front back ys zs all is whole first second = rw (is, whole) (AllZip-append R front back ys zs first second)

  pub zip_more : (items part : List X) (at n : ℕ) (ys zs all : List Y) → part ≡ take n (drop at items) → all ≡ ys ++ zs
      → AllZip R (take at items) ys → AllZip R part zs → AllZip R (take (at + n) items) all
  zip_more items part at n ys zs all is whole front back =
      let together = AllZip-append R (take at items) part ys zs front back in
      rw (whole, take_split at n (at + n) items refl, sym is) together
