-- What a list of moves shows: their sum where no seek is remembered, and enough of them forget a seek; and what a seek shows at least.
use Rattle.std.proofs.Common.{◌≡◌, ℕ, zero, suc, ◌+◌, ◌<◌, ◌≤◌, max, Option, Some, None, List, [], ◌∷◌, fold, take, map, length, inl, inr, refl, ap, ◌∙◌, arith, nat_le, true, false}
use Rattle.std.specs.Prelude.{sum}
use Rattle.std.proofs.Math.Nat.{le-max_left}
use Rattle.std.proofs.lemmas.Bool.{cases_Bool, leb-false}
use Rattle.std.proofs.lemmas.List.Sums.{sum_by-cons}
use Rattle.indicatif.specs.Ring.{greatest_of}
use Rattle.indicatif.specs.Seek.{Seeks, no_seeks, saturated, Forward, greatest_shown, after_move, after_seek, after_steps, places_of}

-- ---- moves

module _ (reset size : ℕ) where
  pub moves-add : (at : ℕ) (moves : List ℕ) → at < 18446744073709551616 → after_steps reset size (at, no_seeks) (map Forward moves) ≡ (saturated at (sum moves), no_seeks)
  moves-add at [] fits =
      let same : at ≡ saturated at 0 = omega (arith, fits) in
      ap (λ k. (k, no_seeks)) same
  moves-add at (n ∷ ns) fits =
      let all : sum (n ∷ ns) ≡ n + sum ns = sum_by-cons (λ k. k) n ns in
      let again : saturated (saturated at n) (sum ns) ≡ saturated at (sum (n ∷ ns)) = omega (arith, all) in
      moves-add (saturated at n) ns (omega arith) ∙ ap (λ k. (k, no_seeks)) again

  stays_forgotten : (at : ℕ) (moves : List ℕ) → (after_steps reset size (at, no_seeks) (map Forward moves)).1 ≡ no_seeks
  stays_forgotten at [] = refl
  stays_forgotten at (n ∷ ns) = stays_forgotten (saturated at n) ns

  move_forgets : (at : ℕ) (places : List ℕ) (before n : ℕ) → nat_le reset (before + 1) ≡ true
      → after_move reset size (record { history = Some places; moves = before }) at n ≡ (saturated at n, no_seeks)
  move_forgets at places before n t = rw t refl

  move_remembers : (at : ℕ) (places : List ℕ) (before n : ℕ) → nat_le reset (before + 1) ≡ false
      → after_move reset size (record { history = Some places; moves = before }) at n ≡ greatest_shown (take size (saturated at n ∷ places)) (before + 1)
  move_remembers at places before n f = rw f refl

  -- by the number of moves that came before
  pub moves-forget : (at : ℕ) (history : Option (List ℕ)) (before : ℕ) (moves : List ℕ) → reset ≤ before + length moves → 0 < length moves
      → (after_steps reset size (at, record { history = history; moves = before }) (map Forward moves)).1 ≡ no_seeks
  moves-forget at history before [] enough some = absurd (omega arith)
  moves-forget at None before (n ∷ ns) enough some = stays_forgotten (saturated at n) ns
  moves-forget at (Some places) before (n ∷ ns) enough some =
      let rest : ℕ × Seeks → Seeks = λ s. (after_steps reset size s (map Forward ns)).1 in
      elim (cases_Bool (nat_le reset (before + 1))) [
        | inl t ↦ ap rest (move_forgets at places before n t) ∙ stays_forgotten (saturated at n) ns
        | inr f ↦
            let few : before + 1 < reset = leb-false reset (before + 1) f in
            let places' : List ℕ = take size (saturated at n ∷ places) in
            ap rest (move_remembers at places before n f) ∙ moves-forget (greatest_of places') (Some places') (before + 1) ns (omega (arith, enough)) (omega (arith, enough, few))
      ]

-- ---- seeks

fold_max-at_least : (a : ℕ) (xs : List ℕ) → a ≤ fold max a xs
fold_max-at_least a [] = omega arith
fold_max-at_least a (x ∷ xs) =
    let more : a ≤ max a x = le-max_left a x in
    let rest : max a x ≤ fold max (max a x) xs = fold_max-at_least (max a x) xs in
    omega (arith, more, rest)

pub seek-at_least : (size place : ℕ) (seeks : Seeks) → 0 < size → place ≤ (after_seek size seeks place).0
seek-at_least zero place seeks some = absurd (omega arith)
seek-at_least (suc size) place seeks some =
    let first : place ≤ max 0 place = omega arith in
    let most : max 0 place ≤ fold max (max 0 place) (take size (places_of seeks.history)) = fold_max-at_least (max 0 place) (take size (places_of seeks.history)) in
    omega (arith, first, most)
