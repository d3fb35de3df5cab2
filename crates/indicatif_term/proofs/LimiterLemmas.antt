-- What a limiter answers, and how often it allows.
use Rattle.std.proofs.Common.{◌≡◌, ℕ, suc, ◌∙◌, ap, ◌+◌, ◌-◌, ◌*◌, ◌/◌, ◌%◌, ◌≤◌, ◌<◌, ◌⊎◌, inl, inr, Bool, true, false, ◌&&◌, ◌||◌, nat_lt, nat_le, min, List, [], ◌∷◌, length, Some, None, refl, sym, subst, arith}
use Rattle.std.specs.Prelude.{if◌then◌else◌}
use Rattle.std.specs.List.{last_or}
use Rattle.std.proofs.lemmas.Bool.{leb-true, le-leb, cases_Bool}
use Rattle.std.proofs.Math.Bool.{or-true}
use Rattle.std.proofs.lemmas.Bool.Decides.{leb_tells}
use Rattle.std.proofs.Math.Nat.{mul-le-mul_right, mod-add-div', min-le_right, min-eq_left, min-eq_right, min_comm}
use Rattle.std.proofs.lemmas.Nat.{le-div}
use Rattle.indicatif_term.specs.Limiters.{Limiter, allow, used, has_leave, allowed_moments, draw_limiter, DrawsAreBounded}

-- with leave, from `prev` on, the answer is yes
pub allows : (l : Limiter) (now : ℕ) → l.prev ≤ now → (0 < l.capacity) ⊎ (l.interval ≤ now - l.prev) → allow l now ≡ (true, used l (now - l.prev) now)
allows l now later (inl some) = rw (le-leb l.prev now later, le-leb 1 l.capacity some) refl
allows l now later (inr passed) = rw (le-leb l.prev now later, le-leb l.interval (now - l.prev) passed, or-true) refl

lt-le : {a b : ℕ} → a < b → a ≤ b
lt-le h = omega (arith, h)

-- more leave than one above the most is as good as that
pub capped : (capacity q : ℕ) → min (capacity + min q 21 - 1) 20 ≡ min 20 (capacity + q - 1)
capped capacity q = elim (leb_tells q 21) as (λ o. min (capacity + min q 21 - 1) 20 ≡ min 20 (capacity + q - 1)) [
  | inl few ↦ ap (λ x. min (capacity + x - 1) 20) (min-eq_left few.1) ∙ min_comm (capacity + q - 1) 20
  | inr many ↦
      let a : 20 ≤ capacity + 21 - 1 = omega arith in
      let b : 20 ≤ capacity + q - 1 = omega (arith, many.1) in
      ap (λ x. min (capacity + x - 1) 20) (min-eq_right (lt-le many.1)) ∙ min-eq_right a ∙ sym (min-eq_left b)
]

-- ---- how often

both : (a b : Bool) → (a && b) ≡ true → (a ≡ true) × (b ≡ true)
both true b e = (refl, e)
both false b e = absurd (cc e)

either : (a b : Bool) → (a || b) ≡ true → (a ≡ true) ⊎ (b ≡ true)
either true b e = inl refl
either false b e = inr e

-- what leave means
leave : (capacity interval elapsed : ℕ) → (nat_lt 0 capacity || nat_le interval elapsed) ≡ true → (0 < capacity) ⊎ (interval ≤ elapsed)
leave capacity interval elapsed e =
    elim (either (nat_lt 0 capacity) (nat_le interval elapsed) e) as (λ o. (0 < capacity) ⊎ (interval ≤ elapsed))
    [ inl h ↦ inl (leb-true 1 capacity h) | inr h ↦ inr (leb-true interval elapsed h) ]

right_distrib : (a b k : ℕ) → (a + b) * k ≡ a * k + b * k
right_distrib a b k = grind arith

one_more : (n k : ℕ) → suc n * k ≡ k + n * k
one_more n k = grind arith

module _ (interval most capacity prev now : ℕ) (positive : 0 < interval) (later : prev ≤ now) (leaves : (0 < capacity) ⊎ (interval ≤ now - prev)) where
  gained : ℕ
  gained = (now - prev) / interval

  next_capacity : ℕ
  next_capacity = min most (capacity + gained - 1)

  next_prev : ℕ
  next_prev = now - (now - prev) % interval

  some_leave : 1 ≤ capacity + gained
  unfolding gained
  some_leave = elim leaves as (λ o. 1 ≤ capacity + (now - prev) / interval) [
    | inl h ↦ omega (arith, h)
    | inr h ↦ let q : 1 ≤ (now - prev) / interval = le-div 1 (now - prev) interval positive (omega (arith, h)) in omega (arith, q)
  ]

  spent : suc next_capacity * interval ≤ capacity * interval + gained * interval
  unfolding next_capacity
  spent =
      let one_less : suc (min most (capacity + gained - 1)) ≤ capacity + gained = omega (arith, some_leave, min-le_right most (capacity + gained - 1)) in
      subst (λ x. suc (min most (capacity + gained - 1)) * interval ≤ x) (right_distrib capacity gained interval) (mul-le-mul_right interval one_less)

  passed : next_prev ≡ prev + gained * interval
  unfolding next_prev gained
  passed = omega (arith, mod-add-div' (now - prev) interval, later)

  within : gained * interval ≤ now - prev
  unfolding gained
  within = omega (arith, mod-add-div' (now - prev) interval)

  -- the moment itself, where nothing is allowed after it
  alone : 1 * interval ≤ capacity * interval + (now - prev)
  alone =
      let h : 1 * interval ≤ (capacity + gained) * interval = mul-le-mul_right interval some_leave in
      let g : 1 * interval ≤ capacity * interval + gained * interval = subst (λ x. 1 * interval ≤ x) (right_distrib capacity gained interval) h in
      omega (arith, g, within)

  -- what is allowed after it
  more : (n last : ℕ) → next_prev ≤ last → n * interval ≤ next_capacity * interval + (last - next_prev) → (prev ≤ last) × (suc n * interval ≤ capacity * interval + (last - prev))
  more n last le h =
      let p : prev + gained * interval ≤ last = subst (λ x. x ≤ last) passed le in
      let k : n * interval ≤ next_capacity * interval + (last - (prev + gained * interval)) = subst (λ x. n * interval ≤ next_capacity * interval + (last - x)) passed h in
      let s : interval + next_capacity * interval ≤ capacity * interval + gained * interval = subst (λ x. x ≤ capacity * interval + gained * interval) (one_more next_capacity interval) spent in
      let w : suc n * interval ≡ interval + n * interval = one_more n interval in
      (omega (arith, p), omega (arith, p, k, s, w))

-- what holds of the moments that a limiter allows
abbrev pub Claim : Limiter → List ℕ → Type 0
Claim l xs = (last : ℕ) → last_or None xs ≡ Some last → (l.prev ≤ last) × (length xs * l.interval ≤ l.capacity * l.interval + (last - l.prev))

pub from_used : (l : Limiter) (now : ℕ) (xs : List ℕ) → 0 < l.interval → l.prev ≤ now → (0 < l.capacity) ⊎ (l.interval ≤ now - l.prev) → Claim (used l (now - l.prev) now) xs → Claim l (now ∷ xs)
unfolding next_capacity next_prev gained
from_used l now [] positive later leaves claim last e =
    let same : now ≡ last = cc e in
    subst (λ x. (l.prev ≤ x) × (1 * l.interval ≤ l.capacity * l.interval + (x - l.prev))) same (later, alone l.interval l.most l.capacity l.prev now positive later leaves)
from_used l now (y ∷ ys) positive later leaves claim last e =
    let r = claim last e in more l.interval l.most l.capacity l.prev now positive later leaves (length (y ∷ ys)) last r.0 r.1

-- the same, whatever becomes of the moment itself
pub claim_kept : (l : Limiter) (now : ℕ) (xs : List ℕ) → 0 < l.interval → l.prev ≤ now → (0 < l.capacity) ⊎ (l.interval ≤ now - l.prev) → Claim (used l (now - l.prev) now) xs → Claim l xs
unfolding next_capacity next_prev gained
claim_kept l now xs positive later leaves claim last e =
    let r = claim last e in
    let k = more l.interval l.most l.capacity l.prev now positive later leaves (length xs) last r.0 r.1 in
    (k.0, omega (arith, k.1, one_more (length xs) l.interval))

-- the answer is yes, with leave; or no, and the limiter stays
pub answered : (l : Limiter) (now : ℕ) →
    ((l.prev ≤ now) × ((0 < l.capacity) ⊎ (l.interval ≤ now - l.prev)) × (allow l now ≡ (true, used l (now - l.prev) now))) ⊎ (allow l now ≡ (false, l))
answered l now = elim (cases_Bool (nat_le l.prev now && has_leave l (now - l.prev))) [
  | inl t ↦ let h = both (nat_le l.prev now) (has_leave l (now - l.prev)) t in inl (leb-true l.prev now h.0, leave l.capacity l.interval (now - l.prev) h.1, rw t refl)
  | inr f ↦ inr (rw f refl)
]

by_answer : (l : Limiter) (now : ℕ) (moments : List ℕ) → 0 < l.interval
    → ((next : Limiter) → 0 < next.interval → Claim next (allowed_moments next moments)) → Claim l (allowed_moments l (now ∷ moments))
by_answer l now moments positive rest =
    let test : Bool = nat_le l.prev now && has_leave l (now - l.prev) in
    let at : Bool → Bool × Limiter = λ b. if b then (true, used l (now - l.prev) now) else (false, l) in
    let xs : Bool → List ℕ = λ b. if (at b).0 then now ∷ allowed_moments (at b).1 moments else allowed_moments (at b).1 moments in
    let P : Bool → Type 0 = λ b. test ≡ b → Claim l (xs b) in
    let cases : (b : Bool) → P b = λ b. elim b as P [
      | true ↦ λ e. let h = both (nat_le l.prev now) (has_leave l (now - l.prev)) e in
          from_used l now (allowed_moments (used l (now - l.prev) now) moments) positive (leb-true l.prev now h.0)
          (leave l.capacity l.interval (now - l.prev) h.1) (rest (used l (now - l.prev) now) positive)
      | false ↦ λ e. rest l positive
    ] in
    cases test refl

claims : (moments : List ℕ) (l : Limiter) → 0 < l.interval → Claim l (allowed_moments l moments)
claims [] l positive = λ last e. absurd (cc e)
claims (now ∷ moments) l positive = by_answer l now moments positive (claims moments)

-- a bound on multiples is a bound on counts
beyond_twenty : (k interval d : ℕ) → 0 < interval → (k + 20) * interval ≤ 20 * interval + d → k + 20 ≤ 20 + d / interval
beyond_twenty k interval d positive h =
    let e : k * interval + 20 * interval ≤ 20 * interval + d = subst (λ x. x ≤ 20 * interval + d) (right_distrib k 20 interval) h in
    let m : k * interval ≤ d = omega (arith, e) in
    let q : k ≤ d / interval = le-div k d interval positive m in
    omega (arith, q)

pub counted : (n interval d : ℕ) → 0 < interval → n * interval ≤ 20 * interval + d → n ≤ 20 + d / interval
counted n interval d positive h = elim (leb_tells 20 n) as (λ o. n ≤ 20 + d / interval) [
  | inl more_than ↦ let e : n ≡ (n - 20) + 20 = omega (arith, more_than.1) in
      subst (λ x. x ≤ 20 + d / interval) (sym e) (beyond_twenty (n - 20) interval d positive (subst (λ x. x * interval ≤ 20 * interval + d) e h))
  | inr fewer ↦ omega (arith, fewer.1)
]

pub draws_are_bounded : DrawsAreBounded
draws_are_bounded rate making last moments some small e =
    let whole : 1 ≤ 1000 / rate = le-div 1 1000 rate some (omega (arith, small)) in
    let positive : 0 < 1000 / rate * 1000000 = omega (arith, whole) in
    let r = claims moments (draw_limiter rate making) positive last e in
    counted (length (allowed_moments (draw_limiter rate making) moments)) (1000 / rate * 1000000) (last - making) positive r.1
