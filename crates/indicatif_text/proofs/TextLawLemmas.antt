-- The laws of whole texts of the formatters: counts with decimals, numbers of bytes, durations in words.
use Rattle.std.proofs.Common.{◌≡◌, ℕ, zero, suc, ◌+◌, ◌-◌, ◌*◌, ◌/◌, ◌%◌, ◌^◌, ◌<◌, ◌≤◌, inl, inr, Bool, true, false, ◌||◌, List, [], ◌∷◌, ◌++◌, length, take, drop, replicate, refl, sym, ap, ◌∙◌, subst, arith, append_assoc, append-nil, length-append, if◌then◌else◌, filter, Some}
use Rattle.std.specs.Prelude.{◌==◌, not, nat_lt, max, slice_get, codes}
use Rattle.std.specs.Char.{is_ascii_digit, digit_value}
use Rattle.std.specs.List.{before_first, after_first, list_all, prefix_len}
use Rattle.std.specs.Str.Parse.{digits_value}
use Rattle.std.specs.Fmt.{decimal}
use Rattle.std.proofs.Math.Nat.{pow-suc, one-le-pow, div-le_self, max-le}
use Rattle.std.proofs.Math.Seq.{take-append_seam, drop-append-add}
use Rattle.std.proofs.lemmas.Nat.{div_below, mul-le}
use Rattle.std.proofs.lemmas.Bool.{eqb-true, le-leb, lt-ltb, le-ltb, eq-eqb, ne_eqb, ltb-true, false≢true, cases_Bool, cases_lt, cond_both, and_parts, and_from}
use Rattle.std.proofs.lemmas.Fmt.{decimal_by_steps_wide, decimal_is_IsNumeral_wide}
use Rattle.std.proofs.lemmas.Int.Digits.{digits_value_push}
use Rattle.std.proofs.lemmas.List.Elements.{filter-append}
use Rattle.std.proofs.lemmas.List.Folds.{list_all-append}
use Rattle.std.proofs.lemmas.List.{length-replicate}
use Rattle.indicatif_text.specs.Format.{round, rounds_up, last_digits, with_commas, without_trailing_zeros, after_point, human_count, human_float_count, fixed_point, prefix_exponent, prefix_letter, bytes_text, binary_bytes, decimal_bytes, TimeSpan, year, week, day, hour, minute, second, rounded_half_up, reaches, count_and_unit_in, count_and_unit, human_duration, short_duration}
use Rattle.indicatif_text.specs.FormatLaws.{digits_in, whole_in, decimals_in, number_in, unit_in, TellsBytes, binary_units, decimal_units}
use Rattle.indicatif_text.proofs.ByteTextLemmas.{power_low}
use Rattle.indicatif_text.proofs.CountLemmas.{stands_before}
use Rattle.indicatif_text.proofs.QuotientLemmas.{length-last_digits}
use Rattle.indicatif_text.proofs.RoundingLemmas.{rounded_by}
use Rattle.indicatif_text.proofs.SeamLemmas.{all_pass}
use Rattle.indicatif_text.proofs.FormatLawLemmas.{aside, digits_spell, only_zeros, no_zero_left, greatest}

-- ---- the parts of a text

-- characters that pass a test which k doesn't
other : (p : ℕ → Bool) (k : ℕ) → p k ≡ false → (c : ℕ) → p c ≡ true → not (c == k) ≡ true
other p k off c on = elim (cases_Bool (c == k)) [
  | inl same ↦ absurd (false≢true (sym off ∙ ap p (sym (eqb-true c k same)) ∙ on))
  | inr apart ↦ rw apart refl
]

-- a test that passes wherever another does
weaker : (p q : ℕ → Bool) → ((c : ℕ) → p c ≡ true → q c ≡ true) → (xs : List ℕ) → list_all p xs ≡ true → list_all q xs ≡ true
weaker p q more [] on = refl
weaker p q more (x ∷ xs) on =
    let parts = and_parts (p x) (list_all p xs) on in and_from (q x) (list_all q xs) (more x parts.0) (weaker p q more xs parts.1)

without : (p : ℕ → Bool) (k : ℕ) → p k ≡ false → (xs : List ℕ) → list_all p xs ≡ true → list_all (λ c. not (c == k)) xs ≡ true
without p k off xs on = weaker p (λ c. not (c == k)) (other p k off) xs on

all_stay : (p : ℕ → Bool) (xs : List ℕ) → list_all p xs ≡ true → filter p xs ≡ xs
all_stay p [] on = refl
all_stay p (x ∷ xs) on = let parts = and_parts (p x) (list_all p xs) on in rw parts.0 (ap (λ ys. x ∷ ys) (all_stay p xs parts.1))

passes_all : (p : ℕ → Bool) (xs : List ℕ) → list_all p xs ≡ true → prefix_len p xs ≡ length xs
passes_all p [] on = refl
passes_all p (x ∷ xs) on = let parts = and_parts (p x) (list_all p xs) on in rw parts.0 (omega (arith, passes_all p xs parts.1))

passes_to : (p : ℕ → Bool) (xs : List ℕ) (c : ℕ) (ys : List ℕ) → list_all p xs ≡ true → p c ≡ false → prefix_len p (xs ++ (c ∷ ys)) ≡ length xs
passes_to p [] c ys on off = rw off refl
passes_to p (x ∷ xs) c ys on off = let parts = and_parts (p x) (list_all p xs) on in rw parts.0 (omega (arith, passes_to p xs c ys parts.1 off))

same_is : (k : ℕ) → not (k == k) ≡ false
same_is k = rw (eq-eqb k k refl) refl

-- a text with one such character: before it and behind it
before_at : (k : ℕ) (xs ys : List ℕ) → list_all (λ c. not (c == k)) xs ≡ true → before_first (λ c. c == k) (xs ++ (k ∷ ys)) ≡ xs
before_at k xs ys on = ap (λ n. take n (xs ++ (k ∷ ys))) (passes_to (λ c. not (c == k)) xs k ys on (same_is k)) ∙ take-append_seam xs (k ∷ ys)

after_at : (k : ℕ) (xs ys : List ℕ) → list_all (λ c. not (c == k)) xs ≡ true → after_first (λ c. c == k) (xs ++ (k ∷ ys)) ≡ ys
after_at k xs ys on = ap (λ n. drop (n + 1) (xs ++ (k ∷ ys))) (passes_to (λ c. not (c == k)) xs k ys on (same_is k)) ∙ drop-append-add xs (k ∷ ys) 1

-- and a text without it
before_none : (k : ℕ) (xs : List ℕ) → list_all (λ c. not (c == k)) xs ≡ true → before_first (λ c. c == k) xs ≡ xs
before_none k xs on =
    ap (λ n. take n xs) (passes_all (λ c. not (c == k)) xs on) ∙ ap (λ ys. take (length xs) ys) (sym (append-nil xs)) ∙ take-append_seam xs []

after_none : (k : ℕ) (xs : List ℕ) → list_all (λ c. not (c == k)) xs ≡ true → after_first (λ c. c == k) xs ≡ []
after_none k xs on =
    ap (λ n. drop (n + 1) xs) (passes_all (λ c. not (c == k)) xs on) ∙ ap (λ ys. drop (length xs + 1) ys) (sym (append-nil xs))
    ∙ drop-append-add xs [] 1

-- ---- digits

digit : (d : ℕ) → d < 10 → is_ascii_digit (48 + d) ≡ true
digit d small = rw (le-leb 48 (48 + d) (omega arith), le-leb (48 + d) 57 (omega arith)) refl

one_digit : (d : ℕ) → d < 10 → list_all is_ascii_digit ((48 + d) ∷ []) ≡ true
one_digit d small = and_from (is_ascii_digit (48 + d)) true (digit d small) refl

decimal_digits : (n : ℕ) → n < 10 ^ 64 → list_all is_ascii_digit (decimal n) ≡ true
decimal_digits n small = decimal_by_steps_wide (λ n ds. list_all is_ascii_digit ds ≡ true)
    one_digit
    (λ n ds more e. all_pass is_ascii_digit ds ((48 + n % 10) ∷ []) e (one_digit (n % 10) (omega arith))) n small

pub last_all_digits : (k n : ℕ) → list_all is_ascii_digit (last_digits k n) ≡ true
last_all_digits zero n = refl
last_all_digits (suc k) n =
    all_pass is_ascii_digit (last_digits k (n / 10)) ((48 + n % 10) ∷ []) (last_all_digits k (n / 10)) (one_digit (n % 10) (omega arith))

left_digits : (ds : List ℕ) → list_all is_ascii_digit ds ≡ true → list_all is_ascii_digit (without_trailing_zeros ds) ≡ true
left_digits ds on =
    let zeros = only_zeros ds in
    let both = sym (list_all-append is_ascii_digit (without_trailing_zeros ds) (replicate zeros.0 48))
    ∙ ap (λ xs. list_all is_ascii_digit xs) zeros.1 ∙ on in
    (and_parts (list_all is_ascii_digit (without_trailing_zeros ds)) (list_all is_ascii_digit (replicate zeros.0 48)) both).0

-- a digit or a comma
abbrev pub is_count_char : ℕ → Bool
is_count_char c = is_ascii_digit c || (c == 0x2C)

counted : (ds : List ℕ) → list_all is_ascii_digit ds ≡ true → list_all is_count_char (with_commas ds) ≡ true
counted [] on = refl
counted (d ∷ ds) on =
    let parts = and_parts (is_ascii_digit d) (list_all is_ascii_digit ds) on in
    let rest = counted ds parts.1 in
    let first : is_count_char d ≡ true = rw parts.0 refl in
    let here : list_all is_count_char (d ∷ with_commas ds) ≡ true = and_from (is_count_char d) (list_all is_count_char (with_commas ds)) first rest in
    let comma : list_all is_count_char (d ∷ 0x2C ∷ with_commas ds) ≡ true =
    and_from (is_count_char d) (list_all is_count_char (0x2C ∷ with_commas ds)) first rest in
    cond_both (stands_before (length ds)) (d ∷ 0x2C ∷ with_commas ds) (d ∷ with_commas ds)
    (λ xs. list_all is_count_char xs ≡ true) (λ e. comma) (λ e. here)

count_chars : (n : ℕ) → n < 10 ^ 64 → list_all is_count_char (human_count n) ≡ true
unfolding human_count
count_chars n small = counted (decimal n) (decimal_digits n small)

count_digits : (n : ℕ) → n < 10 ^ 64 → digits_in (human_count n) ≡ decimal n
unfolding human_count
count_digits n small = aside is_ascii_digit refl (decimal n) ∙ all_stay is_ascii_digit (decimal n) (decimal_digits n small)

no_value : digit_value 48 ≡ 0
no_value = refl

-- zeros behind a numeral
zeros_behind : (ds : List ℕ) (k : ℕ) → digits_value 10 (ds ++ replicate k 48) ≡ digits_value 10 ds * 10 ^ k
zeros_behind ds zero = ap (λ xs. digits_value 10 xs) (append-nil ds) ∙ omega arith
zeros_behind ds (suc k) =
    ap (λ xs. digits_value 10 xs) (sym (append_assoc ds (48 ∷ []) (replicate k 48))) ∙ zeros_behind (ds ++ (48 ∷ [])) k
    ∙ ap (λ v. v * 10 ^ k) (digits_value_push 10 ds 48) ∙ omega (arith, ap (λ x. digits_value 10 ds * x) (pow-suc 10 k), no_value)

-- ---- counts with decimals

round_low : (a b : ℕ) → round a b ≤ a + 1
round_low a b =
    let up = rounds_up (a / b % 2 == 1) (a % b) b in
    let low : (if up then a / b + 1 else a / b) ≤ a + 1 =
    cond_both up (a / b + 1) (a / b) (λ q. q ≤ a + 1) (λ e. omega (arith, div-le_self a b)) (λ e. omega (arith, div-le_self a b)) in
    subst (λ q. q ≤ a + 1) (rounded_by a b up refl) low

whole_small : (num den places : ℕ) → num < 2 ^ 128 → round (num * 10 ^ places) den / 10 ^ places < 10 ^ 64
whole_small num den places small =
    let some : 1 ≤ 10 ^ places = one-le-pow places 10 (omega arith) in
    let low : round (num * 10 ^ places) den < (num + 2) * 10 ^ places = omega (arith, round_low (num * 10 ^ places) den) in
    omega (arith, div_below (round (num * 10 ^ places) den) (10 ^ places) (num + 2) some low)

decimals_are : (front ds : List ℕ) → list_all is_count_char front ≡ true → decimals_in (front ++ after_point ds) ≡ ds
decimals_are front [] on = ap (λ xs. decimals_in xs) (append-nil front) ∙ after_none 0x2E front (without is_count_char 0x2E refl front on)
decimals_are front (d ∷ ds) on = after_at 0x2E front (d ∷ ds) (without is_count_char 0x2E refl front on)

whole_is : (front ds : List ℕ) → list_all is_count_char front ≡ true → whole_in (front ++ after_point ds) ≡ front
whole_is front [] on = ap (λ xs. whole_in xs) (append-nil front) ∙ before_none 0x2E front (without is_count_char 0x2E refl front on)
whole_is front (d ∷ ds) on = before_at 0x2E front (d ∷ ds) (without is_count_char 0x2E refl front on)

digits_are : (front ds : List ℕ) → list_all is_ascii_digit ds ≡ true → digits_in (front ++ after_point ds) ≡ digits_in front ++ ds
digits_are front [] on = ap (λ xs. digits_in xs) (append-nil front) ∙ sym (append-nil (digits_in front))
digits_are front (d ∷ ds) on =
    filter-append is_ascii_digit front (0x2E ∷ d ∷ ds) ∙ ap (λ xs. digits_in front ++ xs) (all_stay is_ascii_digit (d ∷ ds) on)

-- the parts of a count with decimals
pub record IsFloatCount (scaled places : ℕ) (text : List ℕ) : Type 0 where
  pub whole : whole_in text ≡ human_count (scaled / 10 ^ places)
  pub decimals : decimals_in text ≡ without_trailing_zeros (last_digits places scaled)
  pub digits : digits_in text ≡ decimal (scaled / 10 ^ places) ++ without_trailing_zeros (last_digits places scaled)

parts_of_count : (scaled places : ℕ) → scaled / 10 ^ places < 10 ^ 64
    → IsFloatCount scaled places (human_count (scaled / 10 ^ places) ++ after_point (without_trailing_zeros (last_digits places scaled)))
parts_of_count scaled places small =
    let front = human_count (scaled / 10 ^ places) in
    let ds = without_trailing_zeros (last_digits places scaled) in
    let on = count_chars (scaled / 10 ^ places) small in
    record {
      whole = whole_is front ds on;
      decimals = decimals_are front ds on;
      digits = digits_are front ds (left_digits (last_digits places scaled) (last_all_digits places scaled))
          ∙ ap (λ xs. xs ++ ds) (count_digits (scaled / 10 ^ places) small);
    }

pub float_count_parts : (num den places : ℕ) → num < 2 ^ 128 → IsFloatCount (round (num * 10 ^ places) den) places (human_float_count num den places)
unfolding human_float_count
float_count_parts num den places small = parts_of_count (round (num * 10 ^ places) den) places (whole_small num den places small)

spelled : (scaled places : ℕ) (text : List ℕ) → scaled / 10 ^ places < 10 ^ 64 → IsFloatCount scaled places text
    → (length (decimals_in text) ≤ places) × (digits_value 10 (digits_in text) * 10 ^ (places - length (decimals_in text)) ≡ scaled)
spelled scaled places text small is =
    let ds = without_trailing_zeros (last_digits places scaled) in
    let zeros = only_zeros (last_digits places scaled) in
    let front = decimal (scaled / 10 ^ places) in
    let many : length ds + zeros.0 ≡ places =
    sym (length-append ds (replicate zeros.0 48) ∙ ap (λ k. length ds + k) (length-replicate zeros.0 48)) ∙ ap length zeros.1
    ∙ length-last_digits places scaled in
    let few : length (decimals_in text) ≡ length ds = ap length is.decimals in
    let left : places - length (decimals_in text) ≡ zeros.0 = omega arith in (
      omega arith,
      ap (λ k. digits_value 10 (digits_in text) * 10 ^ k) left ∙ ap (λ xs. digits_value 10 xs * 10 ^ zeros.0) is.digits
          ∙ sym (zeros_behind (front ++ ds) zeros.0)
          ∙ ap (λ xs. digits_value 10 xs) (append_assoc front ds (replicate zeros.0 48) ∙ ap (λ xs. front ++ xs) zeros.1)
          ∙ digits_spell places scaled small,
    )

pub float_count_spells : (num den places : ℕ) → num < 2 ^ 128
    → let text = human_float_count num den places in
    (length (decimals_in text) ≤ places) × (digits_value 10 (digits_in text) * 10 ^ (places - length (decimals_in text)) ≡ round (num * 10 ^ places) den)
float_count_spells num den places small =
    let scaled = round (num * 10 ^ places) den in
    spelled scaled places (human_float_count num den places) (whole_small num den places small) (float_count_parts num den places small)

pub no_zero_at_end : (num den places : ℕ) (front : List ℕ) → num < 2 ^ 128 → decimals_in (human_float_count num den places) ≡ front ++ (48 ∷ []) → ⊥
no_zero_at_end num den places front small e =
    no_zero_left (last_digits places (round (num * 10 ^ places) den)) front (sym (float_count_parts num den places small).decimals ∙ e)

-- whether the last character, if there is one, passes
last_passes : (ℕ → Bool) → List ℕ → Bool
last_passes p [] = true
last_passes p (x ∷ []) = p x
last_passes p (x ∷ y ∷ xs) = last_passes p (y ∷ xs)

last_one : (p : ℕ → Bool) (xs : List ℕ) (y : ℕ) → last_passes p (xs ++ (y ∷ [])) ≡ p y
unfolding last_passes
last_one p [] y = refl
last_one p (x ∷ []) y = refl
last_one p (x ∷ z ∷ xs) y = last_one p (z ∷ xs) y

last_of_all : (p : ℕ → Bool) (xs : List ℕ) → list_all p xs ≡ true → last_passes p xs ≡ true
unfolding last_passes
last_of_all p [] on = refl
last_of_all p (x ∷ []) on = (and_parts (p x) true on).0
last_of_all p (x ∷ y ∷ xs) on = last_of_all p (y ∷ xs) (and_parts (p x) (list_all p (y ∷ xs)) on).1

last_behind : (p : ℕ → Bool) (xs : List ℕ) (d : ℕ) (ds : List ℕ) → list_all p (d ∷ ds) ≡ true → last_passes p (xs ++ (d ∷ ds)) ≡ true
unfolding last_passes
last_behind p [] d ds on = last_of_all p (d ∷ ds) on
last_behind p (x ∷ []) d ds on = last_of_all p (d ∷ ds) on
last_behind p (x ∷ z ∷ xs) d ds on = last_behind p (z ∷ xs) d ds on

-- a count with decimals ends in a digit or a comma
ends_in_count : (front ds : List ℕ) → list_all is_count_char front ≡ true → list_all is_count_char ds ≡ true
    → last_passes is_count_char (front ++ after_point ds) ≡ true
ends_in_count front [] on more = ap (λ xs. last_passes is_count_char xs) (append-nil front) ∙ last_of_all is_count_char front on
ends_in_count front (d ∷ ds) on more =
    ap (λ xs. last_passes is_count_char xs) (sym (append_assoc front (0x2E ∷ []) (d ∷ ds)))
    ∙ last_behind is_count_char (front ++ (0x2E ∷ [])) d ds more

pub no_point_at_end : (num den places : ℕ) (front : List ℕ) → num < 2 ^ 128 → human_float_count num den places ≡ front ++ (0x2E ∷ []) → ⊥
unfolding human_float_count
no_point_at_end num den places front small e =
    let scaled = round (num * 10 ^ places) den in
    let ds = without_trailing_zeros (last_digits places scaled) in
    let digits = left_digits (last_digits places scaled) (last_all_digits places scaled) in
    let counts = weaker is_ascii_digit is_count_char (λ c on. rw on refl) ds digits in
    let on = ends_in_count (human_count (scaled / 10 ^ places)) ds (count_chars (scaled / 10 ^ places) (whole_small num den places small)) counts in
    false≢true (sym (last_one is_count_char front 0x2E) ∙ ap (λ xs. last_passes is_count_char xs) (sym e) ∙ on)

-- ---- numbers of bytes

-- a digit or the point
abbrev pub is_fixed_char : ℕ → Bool
is_fixed_char c = is_ascii_digit c || (c == 0x2E)

fixed_chars : (xs ds : List ℕ) → list_all is_ascii_digit xs ≡ true → list_all is_ascii_digit ds ≡ true
    → list_all is_fixed_char (xs ++ (0x2E ∷ ds)) ≡ true
fixed_chars xs ds front behind =
    let more = λ (c : ℕ) (on : is_ascii_digit c ≡ true). (let h : is_fixed_char c ≡ true = rw on refl in h) in
    all_pass is_fixed_char xs (0x2E ∷ ds) (weaker is_ascii_digit is_fixed_char more xs front) (weaker is_ascii_digit is_fixed_char more ds behind)

-- two parts with a space between them
spaced_number : (p : ℕ → Bool) (xs unit : List ℕ) → p 0x20 ≡ false → list_all p xs ≡ true → number_in (xs ++ (0x20 ∷ unit)) ≡ xs
spaced_number p xs unit off on = before_at 0x20 xs unit (without p 0x20 off xs on)

spaced_unit : (p : ℕ → Bool) (xs unit : List ℕ) → p 0x20 ≡ false → list_all p xs ≡ true → unit_in (xs ++ (0x20 ∷ unit)) ≡ unit
spaced_unit p xs unit off on = after_at 0x20 xs unit (without p 0x20 off xs on)

few_is : (base n : ℕ) (letters tail : List ℕ) → n < base → bytes_text base letters tail n ≡ decimal n ++ (0x20 ∷ codes "B")
unfolding bytes_text
few_is base n letters tail few = rw (lt-ltb n base few) refl

tells_few : (base n : ℕ) (units : List (List ℕ)) (letters tail : List ℕ) → 0 < base → n < base → n < 10 ^ 64 → slice_get units 0 ≡ Some (codes "B")
    → TellsBytes base units n 0 (bytes_text base letters tail n)
tells_few base n units letters tail some few small first =
    let text = few_is base n letters tail few in
    let digits = decimal_digits n small in
    record {
      reached = λ more. absurd (omega arith);
      greatest = λ j low at. elim (cases_lt 0 j) [ inl more ↦ absurd (omega (arith, power_low base j some more)) | inr none ↦ none ];
      unit = first ∙ ap (λ u. Some u) (sym (ap (λ t. unit_in t) text ∙ spaced_unit is_ascii_digit (decimal n) (codes "B") refl digits));
      whole = λ e. ap (λ t. number_in t) text ∙ spaced_number is_ascii_digit (decimal n) (codes "B") refl digits;
      decimals = λ more. absurd (omega arith);
      spells = λ more. absurd (omega arith);
    }

many_is : (base n k : ℕ) (letters tail : List ℕ) → base ≤ n → k ≡ prefix_exponent base 6 n
    → bytes_text base letters tail n ≡ (decimal (round (n * 100) (base ^ k) / 100) ++ (0x2E ∷ last_digits 2 (round (n * 100) (base ^ k))))
    ++ (0x20 ∷ (prefix_letter k letters ++ tail))
unfolding bytes_text fixed_point
many_is base n k letters tail enough k_is = rw (le-ltb n base enough, k_is) (simp append_assoc)

tells_many : (base n k : ℕ) (units : List (List ℕ)) (letters tail : List ℕ) → 0 < base → base ≤ n → n < 2 ^ 64 → k ≡ prefix_exponent base 6 n
    → slice_get units k ≡ Some (prefix_letter k letters ++ tail) → TellsBytes base units n k (bytes_text base letters tail n)
tells_many base n k units letters tail some enough small k_is unit_is =
    let most = greatest base 6 n some enough in
    let power = base ^ k in
    let h = round (n * 100) power in
    let number = decimal (h / 100) ++ (0x2E ∷ last_digits 2 h) in
    let unit = prefix_letter k letters ++ tail in
    let text = many_is base n k letters tail enough k_is in
    let low : h / 100 < 10 ^ 64 = omega (arith, round_low (n * 100) power) in
    let front = decimal_digits (h / 100) low in
    let behind = last_all_digits 2 h in
    let fixed = fixed_chars (decimal (h / 100)) (last_digits 2 h) front behind in
    let is : number_in (bytes_text base letters tail n) ≡ number = ap (λ t. number_in t) text ∙ spaced_number is_fixed_char number unit refl fixed in
    let digits : digits_in number ≡ decimal (h / 100) ++ last_digits 2 h =
    filter-append is_ascii_digit (decimal (h / 100)) (0x2E ∷ last_digits 2 h)
    ∙ ap (λ xs. xs ++ digits_in (last_digits 2 h)) (all_stay is_ascii_digit (decimal (h / 100)) front)
    ∙ ap (λ xs. decimal (h / 100) ++ xs) (all_stay is_ascii_digit (last_digits 2 h) behind) in
    record {
      reached = λ more. subst (λ e. base ^ e ≤ n) (sym k_is) most.2;
      greatest = λ j low at. subst (λ e. j ≤ e) (sym k_is) (most.3 j low at);
      unit = unit_is ∙ ap (λ u. Some u) (sym (ap (λ t. unit_in t) text ∙ spaced_unit is_fixed_char number unit refl fixed));
      whole = λ e. absurd (omega (arith, most.0));
      decimals = λ more. ap (λ t. length (decimals_in t)) is
          ∙ ap length (after_at 0x2E (decimal (h / 100)) (last_digits 2 h) (without is_ascii_digit 0x2E refl (decimal (h / 100)) front));
      spells = λ more. ap (λ t. digits_value 10 (digits_in t)) is ∙ ap (λ t. digits_value 10 t) digits ∙ digits_spell 2 h low;
    }

-- what holds of each number from 1 to 6
each_of_six : (P : ℕ → Type 0) → P 1 → P 2 → P 3 → P 4 → P 5 → P 6 → (k : ℕ) → 1 ≤ k → k ≤ 6 → P k
each_of_six P a b c d e f zero low high = absurd (omega arith)
each_of_six P a b c d e f (suc zero) low high = a
each_of_six P a b c d e f (suc (suc zero)) low high = b
each_of_six P a b c d e f (suc (suc (suc zero))) low high = c
each_of_six P a b c d e f (suc (suc (suc (suc zero)))) low high = d
each_of_six P a b c d e f (suc (suc (suc (suc (suc zero))))) low high = e
each_of_six P a b c d e f (suc (suc (suc (suc (suc (suc zero)))))) low high = f
each_of_six P a b c d e f (suc (suc (suc (suc (suc (suc (suc k))))))) low high = absurd (omega arith)

binary_unit : (k : ℕ) → 1 ≤ k → k ≤ 6 → slice_get binary_units k ≡ Some (prefix_letter k (codes "KMGTPE") ++ codes "iB")
binary_unit = each_of_six (λ k. slice_get binary_units k ≡ Some (prefix_letter k (codes "KMGTPE") ++ codes "iB")) refl refl refl refl refl refl

decimal_unit : (k : ℕ) → 1 ≤ k → k ≤ 6 → slice_get decimal_units k ≡ Some (prefix_letter k (codes "kMGTPE") ++ codes "B")
decimal_unit = each_of_six (λ k. slice_get decimal_units k ≡ Some (prefix_letter k (codes "kMGTPE") ++ codes "B")) refl refl refl refl refl refl

text_tells : (base n : ℕ) (units : List (List ℕ)) (letters tail : List ℕ) → 0 < base → n < 2 ^ 64 → slice_get units 0 ≡ Some (codes "B")
    → ((k : ℕ) → 1 ≤ k → k ≤ 6 → slice_get units k ≡ Some (prefix_letter k letters ++ tail))
    → (k : ℕ) × TellsBytes base units n k (bytes_text base letters tail n)
text_tells base n units letters tail some small first others = elim (cases_lt n base) [
  | inl few ↦ (0, tells_few base n units letters tail some few (omega arith) first)
  | inr enough ↦
      let most = greatest base 6 n some enough in
      let high : prefix_exponent base 6 n ≤ 6 = elim most.1 [ inl one ↦ omega arith | inr h ↦ h ] in
      let k = prefix_exponent base 6 n in
      (k, tells_many base n k units letters tail some enough small refl (others k most.0 high))
]

pub binary_tells : (n : ℕ) → n < 2 ^ 64 → (k : ℕ) × TellsBytes 1024 binary_units n k (binary_bytes n)
binary_tells n small = text_tells 1024 n binary_units (codes "KMGTPE") (codes "iB") (omega arith) small refl binary_unit

pub decimal_tells : (n : ℕ) → n < 2 ^ 64 → (k : ℕ) × TellsBytes 1000 decimal_units n k (decimal_bytes n)
decimal_tells n small = text_tells 1000 n decimal_units (codes "kMGTPE") (codes "B") (omega arith) small refl decimal_unit

-- ---- durations in words

rounded_low : (n unit : ℕ) → 0 < unit → rounded_half_up n unit ≤ n + 1
rounded_low n unit some =
    let more : n * 1 ≤ n * unit = mul-le n 1 n unit (omega arith) some in
    let small : 2 * n + unit < (n + 2) * (2 * unit) = omega (arith, more) in
    omega (arith, div_below (2 * n + unit) (2 * unit) (n + 2) (omega arith) small)

all_long : List TimeSpan → Bool
all_long units = list_all (λ u. nat_lt 0 u.nanos) units

count_low : (n : ℕ) (unit : TimeSpan) (units : List TimeSpan) → all_long (unit ∷ units) ≡ true → (count_and_unit_in n unit units).0 ≤ n + 2
unfolding all_long
count_low n unit [] on = omega (arith, rounded_low n unit.nanos (ltb-true 0 unit.nanos (and_parts (nat_lt 0 unit.nanos) true on).0))
count_low n unit (next ∷ units) on =
    let parts = and_parts (nat_lt 0 unit.nanos) (list_all (λ u. nat_lt 0 u.nanos) (next ∷ units)) on in
    let few : max 2 (rounded_half_up n unit.nanos) ≤ n + 2 =
    max-le (omega arith) (omega (arith, rounded_low n unit.nanos (ltb-true 0 unit.nanos parts.0))) in
    cond_both (reaches n unit next) (max 2 (rounded_half_up n unit.nanos), unit) (count_and_unit_in n next units)
    (λ t. t.0 ≤ n + 2) (λ e. few) (λ e. count_low n next units parts.1)

pub few_units : (n : ℕ) → (count_and_unit n).0 ≤ n + 2
unfolding count_and_unit all_long
few_units n = count_low n year (week ∷ day ∷ hour ∷ minute ∷ second ∷ []) refl

-- a unit with a letter
has_letter : TimeSpan → Bool
has_letter unit = nat_lt 0 (length unit.name)

unit_named : (n : ℕ) (unit : TimeSpan) (units : List TimeSpan) → list_all has_letter (unit ∷ units) ≡ true
    → has_letter (count_and_unit_in n unit units).1 ≡ true
unit_named n unit [] on = (and_parts (has_letter unit) true on).0
unit_named n unit (next ∷ units) on =
    let parts = and_parts (has_letter unit) (list_all has_letter (next ∷ units)) on in
    cond_both (reaches n unit next) (max 2 (rounded_half_up n unit.nanos), unit) (count_and_unit_in n next units)
    (λ t. has_letter t.1 ≡ true) (λ e. parts.0) (λ e. unit_named n next units parts.1)

named : (n : ℕ) → 0 < length (count_and_unit n).1.name
unfolding count_and_unit has_letter
named n = ltb-true 0 (length (count_and_unit n).1.name) (unit_named n year (week ∷ day ∷ hour ∷ minute ∷ second ∷ []) refl)

-- the unit as it is told
plural : ℕ → List ℕ → List ℕ
plural count name = name ++ (if count == 1 then [] else codes "s")

words_are : (n : ℕ) → human_duration n ≡ decimal (count_and_unit n).0 ++ (0x20 ∷ plural (count_and_unit n).0 (count_and_unit n).1.name)
unfolding human_duration plural
words_are n = simp append_assoc

pub word_number : (n : ℕ) → n < 2 ^ 64 → number_in (human_duration n) ≡ decimal (count_and_unit n).0
word_number n small =
    ap (λ t. number_in t) (words_are n)
    ∙ spaced_number is_ascii_digit (decimal (count_and_unit n).0) (plural (count_and_unit n).0 (count_and_unit n).1.name) refl (decimal_digits (count_and_unit n).0 (omega (arith, few_units n)))

word_unit : (n : ℕ) → n < 2 ^ 64 → unit_in (human_duration n) ≡ plural (count_and_unit n).0 (count_and_unit n).1.name
word_unit n small =
    ap (λ t. unit_in t) (words_are n)
    ∙ spaced_unit is_ascii_digit (decimal (count_and_unit n).0) (plural (count_and_unit n).0 (count_and_unit n).1.name) refl (decimal_digits (count_and_unit n).0 (omega (arith, few_units n)))

pub word_spells : (n : ℕ) → n < 2 ^ 64 → digits_value 10 (number_in (human_duration n)) ≡ (count_and_unit n).0
word_spells n small = ap (λ t. digits_value 10 t) (word_number n small) ∙ (decimal_is_IsNumeral_wide (count_and_unit n).0 (omega (arith, few_units n))).1

pub one_unit : (n : ℕ) → n < 2 ^ 64 → (count_and_unit n).0 ≡ 1 → unit_in (human_duration n) ≡ (count_and_unit n).1.name
unfolding plural
one_unit n small one =
    word_unit n small ∙ ap (λ b. (count_and_unit n).1.name ++ (if b then [] else codes "s")) (eq-eqb (count_and_unit n).0 1 one) ∙ append-nil (count_and_unit n).1.name

pub more_units : (n : ℕ) → n < 2 ^ 64 → ((count_and_unit n).0 ≡ 1 → ⊥) → unit_in (human_duration n) ≡ (count_and_unit n).1.name ++ codes "s"
unfolding plural
more_units n small more = word_unit n small ∙ ap (λ b. (count_and_unit n).1.name ++ (if b then [] else codes "s")) (ne_eqb (count_and_unit n).0 1 more)

first_letter : (name more : List ℕ) → 0 < length name → take 1 name ≡ take 1 (name ++ more)
first_letter [] more some = absurd (omega arith)
first_letter (c ∷ name) more some = refl

pub short_is : (n : ℕ) → n < 2 ^ 64 → short_duration n ≡ number_in (human_duration n) ++ take 1 (unit_in (human_duration n))
unfolding short_duration plural
short_is n small =
    let letter = first_letter (count_and_unit n).1.name (if (count_and_unit n).0 == 1 then [] else codes "s") (named n) in
    ap (λ l. decimal (count_and_unit n).0 ++ l) (letter ∙ ap (λ u. take 1 u) (sym (word_unit n small)))
    ∙ ap (λ d. d ++ take 1 (unit_in (human_duration n))) (sym (word_number n small))
