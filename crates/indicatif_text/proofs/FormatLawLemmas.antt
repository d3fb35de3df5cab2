-- The laws of rounding, digits, commas, prefixes and clocks.
use Rattle.std.proofs.Common.{◌≡◌, ℕ, zero, suc, ◌+◌, ◌-◌, ◌*◌, ◌/◌, ◌%◌, ◌^◌, ◌<◌, ◌≤◌, ◌⊎◌, inl, inr, Bool, true, false, ◌&&◌, List, [], ◌∷◌, ◌++◌, length, take, drop, replicate, refl, sym, ap, ◌∙◌, subst, arith, append_assoc, append-nil, length-append, if◌then◌else◌, filter}
use Rattle.std.specs.Prelude.{◌==◌, not, nat_le, IsTrue, codes}
use Rattle.std.specs.Str.Parse.{digits_value}
use Rattle.std.specs.Char.{digit_value}
use Rattle.std.specs.Fmt.{decimal}
use Rattle.std.proofs.Math.Nat.{pow-suc, pow-succ', one-le-pow, div-div-eq-div-mul}
use Rattle.std.proofs.Math.Seq.{drop-append_seam, take-append_seam}
use Rattle.std.proofs.lemmas.Nat.{div-add-mod', mod-mul-add, mod_below}
use Rattle.std.proofs.lemmas.Bool.{leb-true, leb-false, eqb-true, eqb-false, le-leb, lt-ltb, le-ltb, eq-eqb, ne_eqb, false≢true, cases_Bool, cases_lt, cases_order, cond_both, and_parts}
use Rattle.std.proofs.lemmas.Str.{digit_value_digit}
use Rattle.std.proofs.lemmas.Int.Digits.{digits_value_push}
use Rattle.std.proofs.lemmas.Fmt.{decimal_by_steps_wide, decimal_is_IsNumeral_wide}
use Rattle.std.proofs.lemmas.List.Elements.{filter-append}
use Rattle.std.proofs.lemmas.List.{nil_from_length}
use Rattle.indicatif_text.specs.Format.{round, rounds_up, last_digits, with_commas, without_trailing_zeros, human_count, prefix_exponent, formatted_duration, TimeSpan, year, week, day, hour, minute, second, reaches, count_and_unit, nanos_per_second}
use Rattle.indicatif_text.specs.FormatLaws.{seconds_told, IsNotPast, IsReached}
use Rattle.indicatif_text.proofs.CountLemmas.{stands_before, count_more}
use Rattle.indicatif_text.proofs.ByteTextLemmas.{power_one}
use Rattle.indicatif_text.proofs.DurationLemmas.{told-years, told-weeks, told-days, told-hours, told-minutes, told-seconds}
use Rattle.indicatif_text.proofs.RoundingLemmas.{rounded_by}

-- ---- rounding

-- what the test tells: above a half, or just a half above an odd number
up_tells : (odd : Bool) (r b : ℕ) → rounds_up odd r b ≡ true → (b < 2 * r) ⊎ ((2 * r ≡ b) × (odd ≡ true))
up_tells odd r b up = elim (cases_order (2 * r) b) [
  | inl same ↦ inr (same, sym (rw (le-ltb b (2 * r) (omega arith), eq-eqb (2 * r) b same) refl) ∙ up)
  | inr other ↦ elim other [
    | inl less ↦ absurd (false≢true (sym (rw (le-ltb b (2 * r) (omega arith), ne_eqb (2 * r) b (λ e. omega arith)) refl) ∙ up))
    | inr more ↦ inl more
  ]
]

down_tells : (odd : Bool) (r b : ℕ) → rounds_up odd r b ≡ false → (2 * r < b) ⊎ ((2 * r ≡ b) × (odd ≡ false))
down_tells odd r b down = elim (cases_order (2 * r) b) [
  | inl same ↦ inr (same, sym (rw (le-ltb b (2 * r) (omega arith), eq-eqb (2 * r) b same) refl) ∙ down)
  | inr other ↦ elim other [
    | inl less ↦ inl less
    | inr more ↦ absurd (false≢true (sym down ∙ rw (lt-ltb b (2 * r) more) refl))
  ]
]

pub record IsNearest (a b q : ℕ) : Type 0 where
  pub above : 2 * (q * b) ≤ 2 * a + b
  pub below : 2 * a ≤ 2 * (q * b) + b
  pub even : (2 * (q * b) ≡ 2 * a + b) ⊎ (2 * a ≡ 2 * (q * b) + b) → q % 2 ≡ 0

nearest_up : (a b : ℕ) → 0 < b → rounds_up (a / b % 2 == 1) (a % b) b ≡ true → IsNearest a b (a / b + 1)
nearest_up a b some up =
    let d = a / b in
    let whole = div-add-mod' a b in
    elim (up_tells (d % 2 == 1) (a % b) b up) [
      | inl more ↦ record { above = omega (arith, whole); below = omega (arith, whole); even = λ tie. elim tie [ inl e ↦ absurd (omega (arith, whole, e)) | inr e ↦ absurd (omega (arith, whole, e)) ] }
      | inr half ↦ let odd = eqb-true (d % 2) 1 half.1 in record { above = omega (arith, whole, half.0); below = omega (arith, whole, half.0); even = λ tie. omega (arith, odd) }
    ]

nearest_down : (a b : ℕ) → 0 < b → rounds_up (a / b % 2 == 1) (a % b) b ≡ false → IsNearest a b (a / b)
nearest_down a b some down =
    let d = a / b in
    let whole = div-add-mod' a b in
    elim (down_tells (d % 2 == 1) (a % b) b down) [
      | inl less ↦ record { above = omega (arith, whole); below = omega (arith, whole); even = λ tie. elim tie [ inl e ↦ absurd (omega (arith, whole, e)) | inr e ↦ absurd (omega (arith, whole, e)) ] }
      | inr half ↦ let even = eqb-false (d % 2) 1 half.1 in record { above = omega (arith, whole, half.0); below = omega (arith, whole, half.0); even = λ tie. omega (arith, even) }
    ]

pub nearest : (a b : ℕ) → 0 < b → IsNearest a b (round a b)
nearest a b some = elim (cases_Bool (rounds_up (a / b % 2 == 1) (a % b) b)) [
  | inl up ↦ subst (IsNearest a b) (rounded_by a b true (sym up)) (nearest_up a b some up)
  | inr down ↦ subst (IsNearest a b) (rounded_by a b false (sym down)) (nearest_down a b some down)
]

-- ---- numerals

digit_value-digit : (d : ℕ) → d < 10 → digit_value (48 + d) ≡ d
digit_value-digit d small = omega (arith, digit_value_digit (48 + d) (omega arith, omega arith))

rest_more : (m n : ℕ) → 0 < m → n % (m * 10) ≡ n / 10 % m * 10 + n % 10
rest_more m n some =
    let last = n / 10 % m * 10 + n % 10 in
    let split : n ≡ n / 10 / m * (m * 10) + last = omega (arith, div-add-mod' (n / 10) m) in
    let small : last < m * 10 = omega (arith, mod_below (n / 10) m some) in
    ap (λ x. x % (m * 10)) split ∙ mod-mul-add (n / 10 / m) (m * 10) last small

pub digits_value-last : (k n : ℕ) → digits_value 10 (last_digits k n) ≡ n % 10 ^ k
digits_value-last zero n = omega arith
digits_value-last (suc k) n =
    digits_value_push 10 (last_digits k (n / 10)) (48 + n % 10)
    ∙ ap (λ d. digits_value 10 (last_digits k (n / 10)) * 10 + d) (digit_value-digit (n % 10) (omega arith))
    ∙ ap (λ v. v * 10 + n % 10) (digits_value-last k (n / 10)) ∙ sym (rest_more (10 ^ k) n (one-le-pow k 10 (omega arith))) ∙ ap (λ x. n % x) (sym (pow-suc 10 k))

pub digits_spell : (k n : ℕ) → n / 10 ^ k < 10 ^ 64 → digits_value 10 (decimal (n / 10 ^ k) ++ last_digits k n) ≡ n
digits_spell zero n small =
    let whole : n / 10 ^ 0 ≡ n = omega arith in
    ap (λ xs. digits_value 10 xs) (append-nil (decimal (n / 10 ^ 0))) ∙ (decimal_is_IsNumeral_wide (n / 10 ^ 0) small).1 ∙ whole
digits_spell (suc k) n small =
    let front : n / 10 ^ suc k ≡ n / 10 / 10 ^ k = ap (λ x. n / x) (pow-succ' 10 k) ∙ sym (div-div-eq-div-mul n 10 (10 ^ k)) in
    let ds = decimal (n / 10 / 10 ^ k) ++ last_digits k (n / 10) in
    ap (λ m. digits_value 10 (decimal m ++ last_digits (suc k) n)) front
    ∙ ap (λ xs. digits_value 10 xs) (sym (append_assoc (decimal (n / 10 / 10 ^ k)) (last_digits k (n / 10)) ((48 + n % 10) ∷ [])))
    ∙ digits_value_push 10 ds (48 + n % 10) ∙ ap (λ d. digits_value 10 ds * 10 + d) (digit_value-digit (n % 10) (omega arith))
    ∙ omega (arith, digits_spell k (n / 10) (subst (λ m. m < 10 ^ 64) front small))

-- ---- commas

-- a test that leaves commas out
pub aside : (p : ℕ → Bool) → p 0x2C ≡ false → (ds : List ℕ) → filter p (with_commas ds) ≡ filter p ds
aside p off [] = refl
aside p off (d ∷ ds) =
    let same : filter p (d ∷ with_commas ds) ≡ filter p (d ∷ ds) = ap (λ xs. if p d then d ∷ xs else xs) (aside p off ds) in
    let past : filter p (0x2C ∷ with_commas ds) ≡ filter p (with_commas ds) = rw off refl in
    cond_both (stands_before (length ds)) (d ∷ 0x2C ∷ with_commas ds) (d ∷ with_commas ds)
    (λ xs. filter p xs ≡ filter p (d ∷ ds)) (λ e. ap (λ xs. if p d then d ∷ xs else xs) past ∙ same) (λ e. same)

one_left : (d : ℕ) → filter (λ d. not (d == 0x2C)) ((48 + d) ∷ []) ≡ (48 + d) ∷ []
one_left d = rw (ne_eqb (48 + d) 0x2C (λ e. omega arith)) refl

numeral_left : (n : ℕ) → n < 10 ^ 64 → filter (λ d. not (d == 0x2C)) (decimal n) ≡ decimal n
numeral_left n small = decimal_by_steps_wide (λ n ds. filter (λ d. not (d == 0x2C)) ds ≡ ds) (λ n few. one_left n)
    (λ n ds more e. filter-append (λ d. not (d == 0x2C)) ds ((48 + n % 10) ∷ []) ∙ ap (λ xs. xs ++ filter (λ d. not (d == 0x2C)) ((48 + n % 10) ∷ [])) e
    ∙ ap (λ xs. ds ++ xs) (one_left (n % 10))) n small

pub commas_aside : (n : ℕ) → n < 10 ^ 64 → filter (λ d. not (d == 0x2C)) (human_count n) ≡ decimal n
unfolding human_count
commas_aside n small = aside (λ d. not (d == 0x2C)) refl (decimal n) ∙ numeral_left n small

pub by_thousands : (n : ℕ) → 1000 ≤ n → n < 10 ^ 64 → human_count n ≡ human_count (n / 1000) ++ (0x2C ∷ last_digits 3 n)
by_thousands n more small =
    let a : n % 1000 / 10 / 10 % 10 ≡ n / 10 / 10 % 10 = omega arith in
    let b : n % 1000 / 10 % 10 ≡ n / 10 % 10 = omega arith in
    let c : n % 1000 % 10 ≡ n % 10 = omega arith in
    count_more n more small ∙ rw (a, b, c) refl

-- ---- zeros at the end

pub only_zeros : (ds : List ℕ) → (k : ℕ) × (without_trailing_zeros ds ++ replicate k 48 ≡ ds)
only_zeros [] = (0, refl)
only_zeros (d ∷ ds) =
    let rest = only_zeros ds in
    let shown = without_trailing_zeros ds in
    elim (cases_Bool ((d == 48) && (length shown == 0))) [
      | inl gone ↦
          let parts = and_parts (d == 48) (length shown == 0) gone in
          let none : shown ≡ [] = nil_from_length shown (eqb-true (length shown) 0 parts.1) in
          (suc rest.0, rw gone (ap (λ x. x ∷ replicate rest.0 48) (sym (eqb-true d 48 parts.0)) ∙ ap (λ xs. d ∷ (xs ++ replicate rest.0 48)) (sym none) ∙ ap (λ xs. d ∷ xs) rest.1))
      | inr stays ↦ (rest.0, rw stays (ap (λ xs. d ∷ xs) rest.1))
    ]

no_end : (es : List ℕ) → [] ≡ es ++ (48 ∷ []) → ⊥
no_end es e = omega (arith, ap length e, length-append es (48 ∷ []))

not_first : (d : ℕ) (ds es : List ℕ) → ((d == 48) && (length (without_trailing_zeros ds) == 0)) ≡ false
    → ((es : List ℕ) → without_trailing_zeros ds ≡ es ++ (48 ∷ []) → ⊥) → d ∷ without_trailing_zeros ds ≡ es ++ (48 ∷ []) → ⊥
not_first d ds [] stays later e =
    let zero_first : d ≡ 48 = cc in
    let none : without_trailing_zeros ds ≡ [] = cc in
    false≢true (sym stays ∙ rw (eq-eqb d 48 zero_first, none) refl)
not_first d ds (x ∷ es) stays later e = let rest : without_trailing_zeros ds ≡ es ++ (48 ∷ []) = cc in later es rest

pub no_zero_left : (ds es : List ℕ) → without_trailing_zeros ds ≡ es ++ (48 ∷ []) → ⊥
no_zero_left [] es e = no_end es e
no_zero_left (d ∷ ds) es e =
    let shown = without_trailing_zeros ds in
    elim (cases_Bool ((d == 48) && (length shown == 0))) [
      | inl gone ↦ no_end es (rw gone at e)
      | inr stays ↦ not_first d ds es stays (no_zero_left ds) (rw stays at e)
    ]

-- ---- bytes

pub greatest : (base most n : ℕ) → 0 < base → base ≤ n
    → (1 ≤ prefix_exponent base most n) × ((prefix_exponent base most n ≤ 1) ⊎ (prefix_exponent base most n ≤ most)) × (base ^ prefix_exponent base most n ≤ n)
    × ((k : ℕ) → k ≤ most → base ^ k ≤ n → k ≤ prefix_exponent base most n)
greatest base zero n some enough = (omega arith, inl (omega arith), omega (arith, power_one base), λ k low at. omega arith)
greatest base (suc most) n some enough =
    let before = greatest base most n some enough in
    elim (cases_Bool (nat_le (base ^ (most + 1)) n)) [
      | inl reached ↦ rw reached (omega arith, inr (omega arith), leb-true (base ^ (most + 1)) n reached, λ k low at. omega arith)
      | inr missed ↦ rw missed (
        before.0,
        elim before.1 [ inl one ↦ inl one | inr low ↦ inr (omega arith) ],
        before.2,
        λ k low at. elim (cases_lt k (suc most)) [
          | inl less ↦ before.3 k (omega arith) at
          | inr same ↦ let e : k ≡ most + 1 = omega arith in absurd (omega (arith, leb-false (base ^ (most + 1)) n missed, subst (λ x. base ^ x ≤ n) e at))
        ],
      )
    ]

-- ---- durations by the clock

clock : ℕ → List ℕ
clock seconds = last_digits 2 (seconds % 86400 / 3600) ++ codes ":" ++ last_digits 2 (seconds % 3600 / 60) ++ codes ":" ++ last_digits 2 (seconds % 60)

two_digits : (n : ℕ) → n < 100 → digits_value 10 (last_digits 2 n) ≡ n
two_digits n small = omega (arith, digits_value-last 2 n)

tells_clock : (seconds : ℕ)
    → digits_value 10 (take 2 (clock seconds)) * 3600 + digits_value 10 (take 2 (drop 3 (clock seconds))) * 60 + digits_value 10 (drop 6 (clock seconds)) ≡ seconds % 86400
unfolding clock
tells_clock seconds =
    let hours = two_digits (seconds % 86400 / 3600) (omega arith) in
    let minutes = two_digits (seconds % 3600 / 60) (omega arith) in
    let rest = two_digits (seconds % 60) (omega arith) in
    let sum : seconds % 86400 / 3600 * 3600 + seconds % 3600 / 60 * 60 + seconds % 60 ≡ seconds % 86400 = omega arith in
    ap (λ x. x * 3600 + digits_value 10 (last_digits 2 (seconds % 3600 / 60)) * 60 + digits_value 10 (last_digits 2 (seconds % 60))) hours
    ∙ ap (λ x. seconds % 86400 / 3600 * 3600 + x * 60 + digits_value 10 (last_digits 2 (seconds % 60))) minutes
    ∙ ap (λ x. seconds % 86400 / 3600 * 3600 + seconds % 3600 / 60 * 60 + x) rest ∙ sum

told_after : (front text : List ℕ) → length text ≡ 8
    → seconds_told (front ++ text) ≡ digits_value 10 (take (length front - 2) (front ++ text)) * 86400 + digits_value 10 (take 2 text) * 3600 + digits_value 10 (take 2 (drop 3 text)) *
    60 + digits_value 10 (drop 6 text)
told_after front text eight =
    let all = front ++ text in
    let k : length all - 8 ≡ length front = omega (arith, length-append front text) in
    ap (λ k. digits_value 10 (take (k - 2) all) * 86400 + digits_value 10 (take 2 (drop k all)) * 3600 + digits_value 10 (take 2 (drop 3 (drop k all))) * 60 + digits_value 10 (drop 6 (drop k all))) k
    ∙ ap (λ c. digits_value 10 (take (length front - 2) all) * 86400 + digits_value 10 (take 2 c) * 3600 + digits_value 10 (take 2 (drop 3 c)) * 60 + digits_value 10 (drop 6 c))
    (drop-append_seam front text)

formatted_is : (n : ℕ) → formatted_duration n ≡ (if n / 1000000000 / 86400 == 0 then [] else decimal (n / 1000000000 / 86400) ++ codes "d ") ++ clock (n / 1000000000)
unfolding formatted_duration clock
formatted_is n = simp append_assoc

eight : (seconds : ℕ) → length (clock seconds) ≡ 8
unfolding clock
eight seconds = refl

pub tells_seconds : (n : ℕ) → n < 2 ^ 64 → seconds_told (formatted_duration n) ≡ n / nanos_per_second
tells_seconds n small =
    let seconds = n / 1000000000 in
    let days = seconds / 86400 in
    let count_and_unit = tells_clock seconds in
    elim (cases_lt 0 days) [
      | inl some ↦
          let front = decimal days ++ codes "d " in
          let text : formatted_duration n ≡ front ++ clock seconds = formatted_is n ∙ rw (ne_eqb days 0 (λ e. omega arith)) refl in
          let long : length front - 2 ≡ length (decimal days) = omega (arith, length-append (decimal days) (codes "d ")) in
          let number : digits_value 10 (take (length front - 2) (front ++ clock seconds)) ≡ days =
          ap (λ k. digits_value 10 (take k (front ++ clock seconds))) long ∙ ap (λ xs. digits_value 10 (take (length (decimal days)) xs)) (append_assoc (decimal days) (codes "d ") (clock seconds))
          ∙ ap (λ xs. digits_value 10 xs) (take-append_seam (decimal days) (codes "d " ++ clock seconds)) ∙ (decimal_is_IsNumeral_wide days (omega arith)).1 in
          ap seconds_told text ∙ told_after front (clock seconds) (eight seconds) ∙ omega (arith, number, count_and_unit)
      | inr none ↦
          let text : formatted_duration n ≡ [] ++ clock seconds = formatted_is n ∙ rw (eq-eqb days 0 (omega arith)) refl in
          ap seconds_told text ∙ told_after [] (clock seconds) (eight seconds) ∙ omega (arith, count_and_unit)
    ]

-- ---- the unit

longest : (n : ℕ) → 47001600000000000 ≤ n → year.nanos ≤ (count_and_unit n).1.nanos
longest n enough = subst (λ t. year.nanos ≤ t.1.nanos) (sym (told-years n enough)) (omega arith)

-- a unit at least: the unit itself below a limit, and from there on a longer one at least
or_more : (n limit : ℕ) (unit longer : TimeSpan) → unit.nanos ≤ longer.nanos → (n < limit → (count_and_unit n).1 ≡ unit) →
    (limit ≤ n → longer.nanos ≤ (count_and_unit n).1.nanos) → unit.nanos ≤ (count_and_unit n).1.nanos
or_more n limit unit longer less here above = elim (cases_lt n limit) [
  | inl few ↦ subst (λ t. unit.nanos ≤ t.nanos) (sym (here few)) (omega arith)
  | inr more ↦ omega (arith, less, above more)
]

week_or_more : (n : ℕ) → 864000000000000 ≤ n → week.nanos ≤ (count_and_unit n).1.nanos
week_or_more n enough = or_more n 47001600000000000 week year (omega arith) (λ few. ap (λ t. t.1) (told-weeks n few enough)) (longest n)

day_or_more : (n : ℕ) → 127800000000000 ≤ n → day.nanos ≤ (count_and_unit n).1.nanos
day_or_more n enough = or_more n 864000000000000 day week (omega arith) (λ few. ap (λ t. t.1) (told-days n few enough)) (week_or_more n)

hour_or_more : (n : ℕ) → 5370000000000 ≤ n → hour.nanos ≤ (count_and_unit n).1.nanos
hour_or_more n enough = or_more n 127800000000000 hour day (omega arith) (λ few. ap (λ t. t.1) (told-hours n few enough)) (day_or_more n)

minute_or_more : (n : ℕ) → 89500000000 ≤ n → minute.nanos ≤ (count_and_unit n).1.nanos
minute_or_more n enough = or_more n 5370000000000 minute hour (omega arith) (λ few. ap (λ t. t.1) (told-minutes n few enough)) (hour_or_more n)

enough_for : (n : ℕ) (unit next : TimeSpan) → IsTrue (reaches n unit next) → unit.nanos + unit.nanos / 2 ≤ n + next.nanos / 2
enough_for n unit next is = leb-true (unit.nanos + unit.nanos / 2) (n + next.nanos / 2) is

pub no_longer_unit : (n : ℕ) → IsNotPast n year week × IsNotPast n week day × IsNotPast n day hour × IsNotPast n hour minute × IsNotPast n minute second
no_longer_unit n = (
  λ is. longest n (omega (arith, enough_for n year week is)),
  λ is. week_or_more n (omega (arith, enough_for n week day is)),
  λ is. day_or_more n (omega (arith, enough_for n day hour is)),
  λ is. hour_or_more n (omega (arith, enough_for n hour minute is)),
  λ is. minute_or_more n (omega (arith, enough_for n minute second is)),
)

reached_by : (n : ℕ) (unit next : TimeSpan) → unit.nanos + unit.nanos / 2 ≤ n + next.nanos / 2 → IsTrue (reaches n unit next)
reached_by n unit next enough = le-leb (unit.nanos + unit.nanos / 2) (n + next.nanos / 2) enough

pub reaches_unit : (n : ℕ)
    → IsReached n year week ⊎ (IsReached n week day ⊎ (IsReached n day hour ⊎ (IsReached n hour minute ⊎ (IsReached n minute second ⊎ ((count_and_unit n).1 ≡ second)))))
reaches_unit n = elim (cases_lt n 47001600000000000) [
  | inr most ↦ inl (ap (λ t. t.1) (told-years n most), reached_by n year week (omega arith))
  | inl below_year ↦ elim (cases_lt n 864000000000000) [
    | inr most ↦ inr (inl (ap (λ t. t.1) (told-weeks n below_year most), reached_by n week day (omega arith)))
    | inl below_week ↦ elim (cases_lt n 127800000000000) [
      | inr most ↦ inr (inr (inl (ap (λ t. t.1) (told-days n below_week most), reached_by n day hour (omega arith))))
      | inl below_day ↦ elim (cases_lt n 5370000000000) [
        | inr most ↦ inr (inr (inr (inl (ap (λ t. t.1) (told-hours n below_day most), reached_by n hour minute (omega arith)))))
        | inl below_hour ↦ elim (cases_lt n 89500000000) [
          | inr most ↦ inr (inr (inr (inr (inl (ap (λ t. t.1) (told-minutes n below_hour most), reached_by n minute second (omega arith))))))
          | inl below_minute ↦ inr (inr (inr (inr (inr (ap (λ t. t.1) (told-seconds n below_minute))))))
        ]
      ]
    ]
  ]
]
