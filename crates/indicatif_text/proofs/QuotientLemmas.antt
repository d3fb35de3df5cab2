-- That long division, digit by digit, gives the rounded quotient and its digits.
use Rattle.std.proofs.Common.{◌≡◌, ℕ, zero, suc, ◌+◌, ◌-◌, ◌*◌, ◌/◌, ◌%◌, ◌^◌, ◌<◌, ◌≤◌, ◌⊎◌, inl, inr, Bool, true, false, ◌&&◌, List, [], ◌∷◌, ◌++◌, length, take, set, get_or, take_all, refl, sym, ap, ◌∙◌, arith, add-one, length-append, eq-zero-or-pos, if◌then◌else◌}
use Rattle.std.specs.Prelude.{◌==◌}
use Rattle.std.specs.Str.{IsAscii}
use Rattle.std.proofs.Math.Nat.{pow-zero, pow-succ', one-le-pow, mul-add-div_right, mul-div-mul_left, div-div-eq-div-mul, mul_comm, mul_assoc, mul_right_comm}
use Rattle.std.proofs.Math.Seq.{set-append_seam, get_or-append_seam}
use Rattle.std.proofs.lemmas.Nat.{div-add-mod', mul-mod_first, pow-add}
use Rattle.std.proofs.lemmas.Grind.{pow_more}
use Rattle.std.proofs.lemmas.Bool.{ne_eqb, eq-eqb}
use Rattle.std.proofs.lemmas.Str.{IsAscii-append}
use Rattle.std.proofs.lemmas.Str.Ascii.{IsAscii-cons, IsAscii-nil}
use Rattle.indicatif_text.specs.Format.{round, rounds_up, last_digits, without_trailing_zeros, after_point, human_count, human_float_count}
use Rattle.indicatif_text.specs.Inside.Quotients.{below, raised}

-- ---- one digit more

-- what is left of a division at this number of decimals
unfoldable pub division_rest : ℕ → ℕ → ℕ → ℕ
division_rest num den places = num * 10 ^ places % den

times_none : (n : ℕ) → n * 10 ^ 0 ≡ n
times_none n = omega (arith, ap (λ x. n * x) (pow-zero 10))

tenfold : (n k : ℕ) → n * 10 ^ (k + 1) ≡ n * 10 ^ k * 10
tenfold n k = ap (λ x. n * x) (pow_more 10 k) ∙ sym (mul_assoc n (10 ^ k) 10)

ten_more : (a b : ℕ) → 0 < b → a * 10 / b ≡ a / b * 10 + a % b * 10 / b
ten_more a b some =
    let split : a * 10 ≡ a / b * 10 * b + a % b * 10 = omega (arith, div-add-mod' a b, mul_right_comm (a / b) 10 b) in
    ap (λ x. x / b) split ∙ mul-add-div_right some (a / b * 10) (a % b * 10)

pub below_next : (num den places : ℕ) → 0 < den → below num den (places + 1) ≡ below num den places * 10 + division_rest num den places * 10 / den
unfolding below division_rest
below_next num den places some = ap (λ x. x / den) (tenfold num places) ∙ ten_more (num * 10 ^ places) den some

pub left_next : (num den places : ℕ) → division_rest num den (places + 1) ≡ division_rest num den places * 10 % den
unfolding division_rest
left_next num den places = ap (λ x. x % den) (tenfold num places) ∙ sym (mul-mod_first (num * 10 ^ places) 10 den)

pub below_none : (num den : ℕ) → below num den 0 ≡ num / den
unfolding below
below_none num den = ap (λ x. x / den) (times_none num)

pub left_none : (num den : ℕ) → division_rest num den 0 ≡ num % den
unfolding division_rest
left_none num den = ap (λ x. x % den) (times_none num)

-- the quotient at this number of decimals, by the digits
pub round_below : (num den places : ℕ) (up : Bool) → up ≡ rounds_up (below num den places % 2 == 1) (division_rest num den places) den
    → round (num * 10 ^ places) den ≡ raised up (below num den places)
unfolding round below division_rest
round_below num den places up e = sym (ap (λ t. raised t (num * 10 ^ places / den)) e)

-- the same of what a loop over the digits holds at its end
pub rounded_at : (num den places place rest : ℕ) (odd up : Bool) → place ≡ places → odd ≡ (below num den place % 2 == 1) → rest ≡ division_rest num den place
    → up ≡ rounds_up odd rest den → round (num * 10 ^ places) den ≡ raised up (below num den places)
rounded_at num den places place rest odd up place_is odd_is rest_is up_is =
    round_below num den places up (rw (odd_is, rest_is, place_is) at up_is)

-- ---- zeros at the end

-- a number at some place is that at an earlier one with zeros after it; `up` is 1 for the next number, and else 0
pub record EndsAt (num den up place last : ℕ) : Type 0 where
  pub within : last ≤ place
  pub zeros : below num den place + up ≡ (below num den last + up) * 10 ^ (place - last)
  pub ends : (last ≡ 0) ⊎ (0 < (below num den last + up) % 10)

one_of : (n k : ℕ) → k ≡ 0 → n ≡ n * 10 ^ k
one_of n k none = sym (ap (λ x. n * 10 ^ x) none ∙ times_none n)

pub ends_none : (num den up : ℕ) → EndsAt num den up 0 0
ends_none num den up = record { within = omega arith; zeros = one_of _ (0 - 0) refl; ends = inl refl }

pub ends_here : (num den up place digit : ℕ) → below num den (place + 1) ≡ below num den place * 10 + digit → 0 < (digit + up) % 10
    → EndsAt num den up (place + 1) (place + 1)
ends_here num den up place digit next some = record {
  within = omega arith;
  zeros = one_of _ (place + 1 - (place + 1)) (omega arith);
  ends = inr (omega arith);
}

pub ends_before : (num den up place last digit : ℕ) → below num den (place + 1) ≡ below num den place * 10 + digit → digit + up ≡ up * 10
    → EndsAt num den up place last → EndsAt num den up (place + 1) last
ends_before num den up place last digit next passed before =
    let more : place + 1 - last ≡ place - last + 1 = omega (arith, before.within) in
    let m = below num den last + up in
    let power : m * 10 ^ (place + 1 - last) ≡ m * 10 ^ (place - last) * 10 = ap (λ k. m * 10 ^ k) more ∙ tenfold m (place - last) in
    record {
      within = omega (arith, before.within);
      zeros = omega (arith, power, ap (λ x. x * 10) before.zeros);
      ends = before.ends;
    }

-- ---- the text

dropped : (ds : List ℕ) → without_trailing_zeros (ds ++ (48 ∷ [])) ≡ without_trailing_zeros ds
dropped [] = refl
dropped (d ∷ ds) = ap (λ es. if (d == 48) && (length es == 0) then [] else d ∷ es) (dropped ds)

not_dropped : (b : Bool) (xs ys : List ℕ) → (if b && false then xs else ys) ≡ ys
not_dropped true xs ys = refl
not_dropped false xs ys = refl

shown_last : (ds : List ℕ) (x : ℕ) → (x ≡ 48 → ⊥) → without_trailing_zeros (ds ++ (x ∷ [])) ≡ ds ++ (x ∷ [])
shown_last [] x other = rw (ne_eqb x 48 other) refl
shown_last (d ∷ ds) x other =
    let some : length (ds ++ (x ∷ [])) ≡ 0 → ⊥ = λ none. omega (arith, length-append ds (x ∷ [])) in
    ap (λ es. if (d == 48) && (length es == 0) then [] else d ∷ es) (shown_last ds x other)
    ∙ rw (ne_eqb (length (ds ++ (x ∷ []))) 0 some) (not_dropped (d == 48) [] (d ∷ (ds ++ (x ∷ []))))

shown_all : (shown m : ℕ) → (shown ≡ 0) ⊎ (0 < m % 10) → without_trailing_zeros (last_digits shown m) ≡ last_digits shown m
shown_all zero m ends = refl
shown_all (suc k) m (inl none) = absurd (omega arith)
shown_all (suc k) m (inr some) = shown_last (last_digits k (m / 10)) (48 + m % 10) (λ e. omega arith)

zeros_dropped : (shown zeros m : ℕ) → (shown ≡ 0) ⊎ (0 < m % 10) → without_trailing_zeros (last_digits (shown + zeros) (m * 10 ^ zeros)) ≡ last_digits shown m
zeros_dropped shown zero m ends =
    let none : shown + 0 ≡ shown = omega arith in
    ap (λ k. without_trailing_zeros (last_digits k (m * 10 ^ 0))) none ∙ ap (λ x. without_trailing_zeros (last_digits shown x)) (times_none m) ∙ shown_all shown m ends
zeros_dropped shown (suc j) m ends =
    let y = m * 10 ^ j in
    let x = m * 10 ^ suc j in
    let more : shown + suc j ≡ suc (shown + j) = omega arith in
    let ten : x ≡ y * 10 = ap (λ k. m * 10 ^ k) (sym (add-one j)) ∙ tenfold m j in
    let front : x / 10 ≡ y = omega (arith, ten) in
    let last : 48 + x % 10 ≡ 48 = omega (arith, ten) in
    ap (λ k. without_trailing_zeros (last_digits k x)) more ∙ ap (λ d. without_trailing_zeros (last_digits (shown + j) (x / 10) ++ (d ∷ []))) last
    ∙ dropped (last_digits (shown + j) (x / 10)) ∙ ap (λ z. without_trailing_zeros (last_digits (shown + j) z)) front ∙ zeros_dropped shown j m ends

some_power : (k : ℕ) → 0 < 10 ^ k
some_power k = one-le-pow k 10 (omega arith)

-- the text by the decimals that are kept
pub by_decimals : (num den places shown m : ℕ) → shown ≤ places → round (num * 10 ^ places) den ≡ m * 10 ^ (places - shown)
    → (shown ≡ 0) ⊎ (0 < m % 10) → human_float_count num den places ≡ human_count (m / 10 ^ shown) ++ after_point (last_digits shown m)
unfolding human_float_count
by_decimals num den places shown m within is ends =
    let j = places - shown in
    let all : places ≡ j + shown = omega arith in
    let turned : places ≡ shown + j = omega arith in
    let whole : m * 10 ^ j / 10 ^ places ≡ m / 10 ^ shown =
    ap (λ k. m * 10 ^ j / 10 ^ k) all ∙ ap (λ x. m * 10 ^ j / x) (pow-add 10 j shown) ∙ ap (λ x. x / (10 ^ j * 10 ^ shown)) (mul_comm m (10 ^ j))
    ∙ mul-div-mul_left m (10 ^ shown) (some_power j) in
    let decimals : without_trailing_zeros (last_digits places (m * 10 ^ j)) ≡ last_digits shown m =
    ap (λ k. without_trailing_zeros (last_digits k (m * 10 ^ j))) turned ∙ zeros_dropped shown j m ends in
    ap (λ x. human_count (x / 10 ^ places) ++ after_point (without_trailing_zeros (last_digits places x))) is
    ∙ ap (λ x. human_count x ++ after_point (without_trailing_zeros (last_digits places (m * 10 ^ j)))) whole
    ∙ ap (λ ds. human_count (m / 10 ^ shown) ++ after_point ds) decimals

-- ---- the whole part

pub whole_plain : (num den shown : ℕ) → below num den shown / 10 ^ shown ≡ num / den
unfolding below
whole_plain num den shown =
    div-div-eq-div-mul (num * 10 ^ shown) den (10 ^ shown) ∙ ap (λ x. x / (den * 10 ^ shown)) (mul_comm num (10 ^ shown))
    ∙ ap (λ x. 10 ^ shown * num / x) (mul_comm den (10 ^ shown)) ∙ mul-div-mul_left num den (some_power shown)

no_carry : (n k : ℕ) → n % 10 < 9 → (n + 1) / 10 ^ suc k ≡ n / 10 ^ suc k
no_carry n k low =
    let front : (n + 1) / 10 ≡ n / 10 = omega arith in
    ap (λ x. (n + 1) / x) (pow-succ' 10 k) ∙ sym (div-div-eq-div-mul (n + 1) 10 (10 ^ k)) ∙ ap (λ x. x / 10 ^ k) front
    ∙ div-div-eq-div-mul n 10 (10 ^ k) ∙ sym (ap (λ x. n / x) (pow-succ' 10 k))

pub whole_raised : (num den shown : ℕ) → 0 < shown → below num den shown % 10 < 9 → (below num den shown + 1) / 10 ^ shown ≡ num / den
whole_raised num den zero some low = absurd (omega arith)
whole_raised num den (suc k) some low = no_carry (below num den (suc k)) k low ∙ whole_plain num den (suc k)

-- ---- the text of what the division finds

zeros_of : (num den up places shown : ℕ) → EndsAt num den up places shown → round (num * 10 ^ places) den ≡ below num den places + up
    → human_float_count num den places ≡ human_count ((below num den shown + up) / 10 ^ shown) ++ after_point (last_digits shown (below num den shown + up))
zeros_of num den up places shown at is = by_decimals num den places shown (below num den shown + up) at.within (is ∙ at.zeros) at.ends

pub text_plain : (num den places shown : ℕ) → EndsAt num den 0 places shown → round (num * 10 ^ places) den ≡ below num den places
    → human_float_count num den places ≡ human_count (num / den) ++ after_point (last_digits shown (below num den shown))
text_plain num den places shown at is =
    let same : round (num * 10 ^ places) den ≡ below num den places + 0 = omega (arith, is) in
    let none : below num den shown + 0 ≡ below num den shown = omega arith in
    zeros_of num den 0 places shown at same
    ∙ ap (λ m. human_count (m / 10 ^ shown) ++ after_point (last_digits shown m)) none
    ∙ ap (λ w. human_count w ++ after_point (last_digits shown (below num den shown))) (whole_plain num den shown)

pub text_raised : (num den places shown : ℕ) → 0 < shown → EndsAt num den 1 places shown → round (num * 10 ^ places) den ≡ below num den places + 1
    → human_float_count num den places ≡ human_count (num / den) ++ after_point (last_digits shown (below num den shown + 1))
text_raised num den places shown some at is =
    let low : below num den shown % 10 < 9 = elim at.ends [ inl none ↦ absurd (omega arith) | inr more ↦ omega arith ] in
    zeros_of num den 1 places shown at is
    ∙ ap (λ w. human_count w ++ after_point (last_digits shown (below num den shown + 1))) (whole_raised num den shown some low)

pub text_carried : (num den places shown : ℕ) → shown ≡ 0 → EndsAt num den 1 places shown → round (num * 10 ^ places) den ≡ below num den places + 1
    → human_float_count num den places ≡ human_count (num / den + 1) ++ []
text_carried num den places zero none at is =
    let whole : (below num den 0 + 1) / 10 ^ 0 ≡ num / den + 1 =
    ap (λ x. (below num den 0 + 1) / x) (pow-zero 10) ∙ omega (arith, below_none num den) in
    zeros_of num den 1 places 0 at is ∙ ap (λ w. human_count w ++ []) whole
text_carried num den places (suc shown) none at is = absurd (omega arith)

-- ---- one decimal more

pub plain_step : (num den place last digit : ℕ) → below num den (place + 1) ≡ below num den place * 10 + digit → digit < 10
    → EndsAt num den 0 place last → EndsAt num den 0 (place + 1) (if digit == 0 then last else place + 1)
plain_step num den place last digit next small at = elim (eq-zero-or-pos digit) [
  | inl none ↦ rw (eq-eqb digit 0 none) (ends_before num den 0 place last digit next (omega arith) at)
  | inr some ↦ rw (ne_eqb digit 0 (λ e. omega arith)) (ends_here num den 0 place digit next (omega arith))
]

pub above_step : (num den place last digit : ℕ) → below num den (place + 1) ≡ below num den place * 10 + digit → digit < 10
    → EndsAt num den 1 place last → EndsAt num den 1 (place + 1) (if digit == 9 then last else place + 1)
above_step num den place last digit next small at = elim (eq-zero-or-pos (9 - digit)) [
  | inl none ↦ rw (eq-eqb digit 9 (omega arith)) (ends_before num den 1 place last digit next (omega arith) at)
  | inr some ↦ rw (ne_eqb digit 9 (λ e. omega arith)) (ends_here num den 1 place digit next (omega arith))
]

pub odd_step : (n m digit : ℕ) → m ≡ n * 10 + digit → (digit % 2 == 1) ≡ (m % 2 == 1)
odd_step n m digit next = let same : digit % 2 ≡ m % 2 = omega arith in ap (λ x. x == 1) same

-- ---- the digits

pub length-last_digits : (k n : ℕ) → length (last_digits k n) ≡ k
length-last_digits zero n = refl
length-last_digits (suc k) n = omega (arith, length-append (last_digits k (n / 10)) ((48 + n % 10) ∷ []), length-last_digits k (n / 10))

pub IsAscii-last_digits : (k n : ℕ) → IsAscii (last_digits k n)
IsAscii-last_digits zero n = IsAscii-nil
IsAscii-last_digits (suc k) n = IsAscii-append _ _ (IsAscii-last_digits k (n / 10)) (IsAscii-cons (48 + n % 10) [] (omega arith) IsAscii-nil)

pub digit_more : (place n m digit : ℕ) → m ≡ n * 10 + digit → digit < 10 → last_digits (place + 1) m ≡ last_digits place n ++ ((48 + digit) ∷ [])
digit_more place n m digit e small =
    let front : m / 10 ≡ n = omega arith in
    let last : 48 + m % 10 ≡ 48 + digit = omega arith in
    ap (λ k. last_digits k m) (add-one place) ∙ ap (λ x. last_digits place x ++ ((48 + m % 10) ∷ [])) front ∙ ap (λ d. last_digits place n ++ (d ∷ [])) last

-- the last digit is raised in place
pub digit_raised : (k n d : ℕ) → n % 10 < 9 → d ≡ 49 + n % 10 → set (last_digits (suc k) n) k d ≡ last_digits (suc k) (n + 1)
digit_raised k n d low is =
    let front : n / 10 ≡ (n + 1) / 10 = omega arith in
    let last : d ≡ 48 + (n + 1) % 10 = omega arith in
    ap (λ i. set (last_digits (suc k) n) i d) (sym (length-last_digits k (n / 10))) ∙ set-append_seam (last_digits k (n / 10)) (48 + n % 10) [] d
    ∙ ap (λ x. last_digits k x ++ (d ∷ [])) front ∙ ap (λ y. last_digits k ((n + 1) / 10) ++ (y ∷ [])) last

-- the last of the digits is raised by one
pub raised_in_place : (out : List ℕ) (n m : ℕ) → 0 < n → out ≡ last_digits n m → m % 10 < 9 → set out (n - 1) (get_or out (n - 1) 0 + 1) ≡ last_digits n (m + 1)
raised_in_place out zero m some is low = absurd (omega arith)
raised_in_place out (suc k) m some is low =
    let front = last_digits k (m / 10) in
    let at : suc k - 1 ≡ k = omega arith in
    let here : get_or (last_digits (suc k) m) k 0 + 1 ≡ 49 + m % 10 =
    ap (λ i. get_or (last_digits (suc k) m) i 0 + 1) (sym (length-last_digits k (m / 10)))
    ∙ ap (λ d. d + 1) (get_or-append_seam front (48 + m % 10) [] 0) ∙ omega arith in
    ap (λ i. set out i (get_or out i 0 + 1)) at ∙ ap (λ ds. set ds k (get_or ds k 0 + 1)) is ∙ digit_raised k m _ low here

-- what a loop over all of a slice has filled
pub all_filled : (out ds : List ℕ) (n : ℕ) → length out ≡ n → take n out ≡ ds → out ≡ ds
all_filled out ds n e filled = sym (take_all n out (omega arith)) ∙ filled

pub behind_point : (ds : List ℕ) → 0 < length ds → 0x2E ∷ ds ≡ after_point ds
behind_point [] some = absurd (omega arith)
behind_point (d ∷ ds) some = refl

pub nothing_behind : (ds : List ℕ) → length ds ≡ 0 → [] ≡ after_point ds
nothing_behind [] none = refl
nothing_behind (d ∷ ds) none = absurd (omega arith)

pub length-behind : (ds : List ℕ) → length (after_point ds) ≤ length ds + 1
length-behind [] = omega arith
length-behind (d ∷ ds) = omega arith

-- the digits up to the last one, and that one, which may be raised where it's no nine
pub last_raised : (up : Bool) (place shown n m digit last : ℕ) → shown ≡ place + 1 → m ≡ n * 10 + digit → digit < 10 → last ≡ raised up digit → (up ≡ true → digit < 9)
    → last_digits place n ++ ((48 + last) ∷ []) ≡ last_digits shown (raised up m)
last_raised false place shown n m digit last k e small is low =
    rw (k, is) (sym (digit_more place n m digit e small))
last_raised true place shown n m digit last k e small is low =
    let more : m + 1 ≡ n * 10 + (digit + 1) = omega (arith, e) in
    rw (k, is) (sym (digit_more place n (m + 1) (digit + 1) more (omega (arith, low refl))))

-- the last of the decimals is no nine where one that is raised is none
pub last_low : (num den shown place digit : ℕ) → shown ≡ place + 1 → below num den (place + 1) ≡ below num den place * 10 + digit → digit < 10
    → (shown ≡ 0) ⊎ (below num den shown % 10 < 9) → digit < 9
last_low num den shown place digit k e small (inl none) = absurd (omega arith)
last_low num den shown place digit k e small (inr low) =
    let at : below num den shown ≡ below num den place * 10 + digit = ap (below num den) k ∙ e in
    omega (arith, at, low)

-- the length of a whole part with decimals
pub length-with_point : (whole ds : List ℕ) → 0 < length ds → length (whole ++ after_point ds) ≡ length whole + (1 + length ds)
length-with_point whole ds some = omega (arith, length-append whole (after_point ds), ap length (behind_point ds some))
