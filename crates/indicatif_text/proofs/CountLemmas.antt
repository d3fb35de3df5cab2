-- That a numeral written three digits at a time, with commas, is the count's text, and how long it is.
use Rattle.std.proofs.Common.{◌≡◌, ℕ, zero, suc, ◌+◌, ◌-◌, ◌/◌, ◌%◌, ◌^◌, ◌<◌, ◌≤◌, Bool, true, false, ◌&&◌, List, [], ◌∷◌, ◌++◌, length, refl, sym, ap, ◌∙◌, inl, inr, arith, append_assoc, length-append, ◌⊎◌, eq-zero-or-pos, if◌then◌else◌}
use Rattle.std.specs.Prelude.{nat_lt, ◌==◌}
use Rattle.std.proofs.lemmas.Bool.{lt-ltb, ne_eqb, eq-eqb, cases_Bool, cases_lt, false≢true}
use Rattle.std.proofs.lemmas.Fmt.{decimal_digit, decimal_step_wide, length-decimal-le_wide}
use Rattle.std.specs.Fmt.{decimal}
use Rattle.indicatif_text.specs.Format.{last_digits, with_commas, human_count}

-- a comma stands before this number of digits
abbrev pub stands_before : ℕ → Bool
stands_before n = nat_lt 0 n && (n % 3 == 0)

not_before_few : (n : ℕ) → n ≤ 2 → stands_before n ≡ false
not_before_few zero few = refl
not_before_few (suc zero) few = refl
not_before_few (suc (suc zero)) few = refl
not_before_few (suc (suc (suc n))) few = absurd (omega arith)

before_three_more : (n : ℕ) → 0 < n → stands_before (n + 3) ≡ stands_before n
before_three_more n some =
    let same : (n + 3) % 3 ≡ n % 3 = omega arith in
    let more : 0 < n + 3 = omega arith in
    rw (lt-ltb 0 n some, lt-ltb 0 (n + 3) more, same) refl

pub commas_few : (ds : List ℕ) → length ds ≤ 3 → with_commas ds ≡ ds
commas_few [] few = refl
commas_few (d ∷ ds) few = rw (not_before_few (length ds) (omega arith)) (ap (λ l. d ∷ l) (commas_few ds (omega arith)))

joined : (b : Bool) (d : ℕ) (xs ys zs : List ℕ) → xs ≡ ys ++ zs
    → (if b then d ∷ 0x2C ∷ xs else d ∷ xs) ≡ (if b then d ∷ 0x2C ∷ ys else d ∷ ys) ++ zs
joined true d xs ys zs e = ap (λ l. d ∷ 0x2C ∷ l) e
joined false d xs ys zs e = ap (λ l. d ∷ l) e

-- three more digits at the end follow a comma
pub commas_more : (ds es : List ℕ) → 0 < length ds → length es ≡ 3 → with_commas (ds ++ es) ≡ with_commas ds ++ (0x2C ∷ es)
commas_more [] es some three = absurd (omega arith)
commas_more (d ∷ []) es some three = rw three (ap (λ l. d ∷ 0x2C ∷ l) (commas_few es (omega arith)))
commas_more (d ∷ e ∷ ds) es some three =
    let n : length ((e ∷ ds) ++ es) ≡ length (e ∷ ds) + 3 = length-append (e ∷ ds) es ∙ ap (λ k. length (e ∷ ds) + k) three in
    let same : stands_before (length ((e ∷ ds) ++ es)) ≡ stands_before (length (e ∷ ds)) =
    ap stands_before n ∙ before_three_more (length (e ∷ ds)) (omega arith) in
    ap (λ b. if b then d ∷ 0x2C ∷ with_commas ((e ∷ ds) ++ es) else d ∷ with_commas ((e ∷ ds) ++ es)) same
    ∙ joined (stands_before (length (e ∷ ds))) d _ _ _ (commas_more (e ∷ ds) es (omega arith) three)

pub decimal_three : (n : ℕ) → 1000 ≤ n → n < 10 ^ 64 → decimal n ≡ decimal (n / 1000) ++ last_digits 3 (n % 1000)
decimal_three n lo hi =
    let a : n / 10 / 10 / 10 ≡ n / 1000 = omega arith in
    let b : n / 10 / 10 % 10 ≡ n % 1000 / 10 / 10 % 10 = omega arith in
    let c : n / 10 % 10 ≡ n % 1000 / 10 % 10 = omega arith in
    let d : n % 10 ≡ n % 1000 % 10 = omega arith in
    rw (
      decimal_step_wide n (omega arith) hi,
      decimal_step_wide (n / 10) (omega arith) (omega arith),
      decimal_step_wide (n / 10 / 10) (omega arith) (omega arith),
      append_assoc,
      append_assoc,
      append_assoc,
      a,
      b,
      c,
      d,
    ) refl

pub decimal_some : (n : ℕ) → n < 10 ^ 64 → 0 < length (decimal n)
decimal_some n hi = elim (cases_lt n 10) [
  | inl one ↦ rw (decimal_digit n one) (omega arith)
  | inr more ↦ rw (decimal_step_wide n more hi) (omega (arith, length-append (decimal (n / 10)) ((48 + n % 10) ∷ [])))
]

-- a count of four digits and more: the thousands, a comma, the last three digits
pub count_more : (n : ℕ) → 1000 ≤ n → n < 10 ^ 64 → human_count n ≡ human_count (n / 1000) ++ (0x2C ∷ last_digits 3 (n % 1000))
unfolding human_count
count_more n lo hi = ap with_commas (decimal_three n lo hi) ∙ commas_more _ _ (decimal_some (n / 1000) (omega arith)) refl

pub count_few : (n : ℕ) → n < 1000 → human_count n ≡ decimal n
unfolding human_count
count_few n few = commas_few _ (length-decimal-le_wide 3 n (omega arith) (omega arith) (omega arith))

before_three : (n : ℕ) → stands_before n ≡ true → (0 < n) × (n % 3 ≡ 0)
before_three n is = elim (cases_lt 0 n) [
  | inl some ↦ elim (eq-zero-or-pos (n % 3)) [
    | inl whole ↦ (some, whole)
    | inr rest ↦ absurd (false≢true (sym (rw (lt-ltb 0 n some, ne_eqb (n % 3) 0 (λ e. omega arith)) refl) ∙ is))
  ]
  | inr none ↦ let e : n ≡ 0 = omega arith in absurd (false≢true (ap stands_before (sym e) ∙ is))
]

not_before : (n : ℕ) → stands_before n ≡ false → (n ≡ 0) ⊎ (0 < n % 3)
not_before n is = elim (cases_lt 0 n) [
  | inl some ↦ elim (eq-zero-or-pos (n % 3)) [
    | inl whole ↦ absurd (false≢true (sym is ∙ rw (lt-ltb 0 n some, eq-eqb (n % 3) 0 whole) refl))
    | inr rest ↦ inr rest
  ]
  | inr none ↦ inl (omega arith)
]

-- how long a count is: a comma for every three digits after the first
pub length-commas : (ds : List ℕ) → length (with_commas ds) ≡ length ds + (length ds - 1) / 3
length-commas [] = refl
length-commas (d ∷ ds) = elim (cases_Bool (stands_before (length ds))) [
  | inl comma ↦ rw comma (omega (arith, length-commas ds, before_three (length ds) comma))
  | inr none ↦ rw none (elim (not_before (length ds) none) [ inl e ↦ omega (arith, length-commas ds) | inr rest ↦ omega (arith, length-commas ds) ])
]

pub length-count : (k n : ℕ) → 0 < k → n < 10 ^ k → n < 10 ^ 64 → length (human_count n) ≤ k + (k - 1) / 3
unfolding human_count
length-count k n some small hi = omega (arith, length-commas (decimal n), length-decimal-le_wide k n some small hi)

-- ---- a count that is written from its end

-- the next three digits and a comma come before what is written
pub count_goes_on : (left n : ℕ) (text start : List ℕ) → 1000 ≤ left → left < 10 ^ 64 → human_count left ++ text ≡ human_count n ++ start
    → human_count (left / 1000) ++ (0x2C ∷ (last_digits 3 (left % 1000) ++ text)) ≡ human_count n ++ start
count_goes_on left n text start more hi e = sym (ap (λ l. l ++ text) (count_more left more hi) ∙ append_assoc _ _ text) ∙ e

-- and there is room for them
pub count_room : (left n : ℕ) (text start : List ℕ) → 1000 ≤ left → left < 10 ^ 64 → human_count left ++ text ≡ human_count n ++ start
    → length (human_count n) + length start ≤ 64 → 4 + length text ≤ 64
count_room left n text start more hi e room =
    let front = human_count (left / 1000) in
    let a : length (human_count left) ≡ length front + 4 = ap length (count_more left more hi) ∙ length-append front _ in
    omega (arith, ap length e, length-append (human_count left) text, length-append (human_count n) start)

-- the first one to three digits end it
pub count_ends : (left n : ℕ) (text start : List ℕ) → left < 1000 → human_count left ++ text ≡ human_count n ++ start
    → decimal left ++ text ≡ human_count n ++ start
count_ends left n text start few e = sym (ap (λ l. l ++ text) (count_few left few)) ∙ e

-- and there is room for them
pub last_room : (left n : ℕ) (text start : List ℕ) → left < 1000 → human_count left ++ text ≡ human_count n ++ start
    → length (human_count n) + length start ≤ 64 → length (decimal left) + length text ≤ 64
last_room left n text start few e room =
    omega (arith, ap length (count_ends left n text start few e), length-append (decimal left) text, length-append (human_count n) start)
