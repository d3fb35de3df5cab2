-- The formatters write printable ASCII, and such texts are plain.
use Rattle.std.proofs.Common.{◌≡◌, ℕ, zero, suc, ◌+◌, ◌-◌, ◌*◌, ◌^◌, ◌/◌, ◌%◌, ◌<◌, true, false, List, [], ◌∷◌, ◌++◌, length, take, drop, Option, Some, None, refl, ◌∙◌, ap, arith, if◌then◌else◌}
use Rattle.std.specs.Prelude.{◌==◌, ◌&&◌, nat_le, nat_lt, max, is_some, unwrap_or, codes, decimal}
use Rattle.std.specs.Int.{IsInRange, is_in_range}
use Rattle.std.specs.List.{list_all, AllByRecursion}
use Rattle.std.specs.Str.{chars}
use Rattle.std.proofs.lemmas.Bool.{cond_both, and_parts, leb-true}
use Rattle.std.proofs.lemmas.List.Elements.{All-from_recursion, recursion_from_All, All-take, All-drop}
use Rattle.std.proofs.lemmas.Str.{IsUtf8-from_ascii, chars-IsAscii}
use Rattle.std.proofs.lemmas.Str.Ascii.{IsAscii-from_all}
use Rattle.unicode_width.specs.Width.{char_width}
use Rattle.indicatif_text.specs.Columns.{visible, is_plain}
use Rattle.indicatif_text.specs.ColumnLaws.{PrintedIsPlain}
use Rattle.indicatif_text.specs.Format.{last_digits, with_commas, without_trailing_zeros, after_point, round, human_count, human_float_count, fixed_point, prefix_exponent, prefix_letter, bytes_text, formatted_duration, nanos_per_second, TimeSpan, reaches, rounded_half_up, count_and_unit_in, count_and_unit, short_duration, year, week, day, hour, minute, second}
use Rattle.indicatif_text.specs.FormatLaws.{IsPrinted, FormattedIsPrinted}
use Rattle.indicatif_text.proofs.ColourSequenceLemmas.{visible_none}
use Rattle.indicatif_text.proofs.SeamLemmas.{others_are_seen, decimal_digits}
use Rattle.indicatif_text.proofs.WidthLemmas.{plain_width}

abbrev Printed : List ℕ → Type 0
Printed text = AllByRecursion (IsInRange 0x20 0x7E) text

both : (xs ys : List ℕ) → Printed xs → Printed ys → Printed (xs ++ ys)
both [] ys x y = y
both (c ∷ xs) ys x y = (x.0, both xs ys x.1 y)

-- a text that is known
written : (text : List ℕ) → list_all (is_in_range 0x20 0x7E) text ≡ true → Printed text
written [] e = tt
written (c ∷ cs) e =
    let parts = and_parts (is_in_range 0x20 0x7E c) (list_all (is_in_range 0x20 0x7E) cs) e in
    let range = and_parts (nat_le 0x20 c) (nat_le c 0x7E) parts.0 in
    ((leb-true 0x20 c range.0, leb-true c 0x7E range.1), written cs parts.1)

taken : (n : ℕ) (xs : List ℕ) → Printed xs → Printed (take n xs)
taken n xs p = recursion_from_All (IsInRange 0x20 0x7E) (take n xs) (All-take (IsInRange 0x20 0x7E) n xs (All-from_recursion (IsInRange 0x20 0x7E) xs p))

dropped : (n : ℕ) (xs : List ℕ) → Printed xs → Printed (drop n xs)
dropped n xs p = recursion_from_All (IsInRange 0x20 0x7E) (drop n xs) (All-drop (IsInRange 0x20 0x7E) n xs (All-from_recursion (IsInRange 0x20 0x7E) xs p))

-- ---- numerals

digits_printed : (ds : List ℕ) → AllByRecursion (IsInRange 48 57) ds → Printed ds
digits_printed [] all = tt
digits_printed (d ∷ ds) all = ((omega (arith, all.0.0), omega (arith, all.0.1)), digits_printed ds all.1)

decimal_printed : (n : ℕ) → Printed (decimal n)
decimal_printed n = digits_printed (decimal n) (decimal_digits n)

last_printed : (k n : ℕ) → Printed (last_digits k n)
last_printed zero n = tt
last_printed (suc k) n = both (last_digits k (n / 10)) ((48 + n % 10) ∷ []) (last_printed k (n / 10)) ((omega arith, omega arith), tt)

commas_printed : (ds : List ℕ) → Printed ds → Printed (with_commas ds)
commas_printed [] p = tt
commas_printed (d ∷ ds) p =
    cond_both (nat_lt 0 (length ds) && (length ds % 3 == 0)) (d ∷ 0x2C ∷ with_commas ds) (d ∷ with_commas ds) (λ x. Printed x)
    (λ _. (p.0, ((omega arith, omega arith), commas_printed ds p.1))) (λ _. (p.0, commas_printed ds p.1))

zeros_printed : (ds : List ℕ) → Printed ds → Printed (without_trailing_zeros ds)
zeros_printed [] p = tt
zeros_printed (d ∷ ds) p =
    cond_both ((d == 48) && (length (without_trailing_zeros ds) == 0)) [] (d ∷ without_trailing_zeros ds) (λ x. Printed x) (λ _. tt) (λ _. (p.0, zeros_printed ds p.1))

point_printed : (ds : List ℕ) → Printed ds → Printed (after_point ds)
point_printed [] p = tt
point_printed (d ∷ ds) p = ((omega arith, omega arith), p)

-- ---- formatters

count_printed : (n : ℕ) → Printed (human_count n)
unfolding human_count
count_printed n = commas_printed (decimal n) (decimal_printed n)

float_printed : (num den places : ℕ) → Printed (human_float_count num den places)
unfolding human_float_count
float_printed num den places =
    let scaled = round (num * 10 ^ places) den in
    both (human_count (scaled / 10 ^ places)) (after_point (without_trailing_zeros (last_digits places scaled))) (count_printed (scaled / 10 ^ places))
    (point_printed (without_trailing_zeros (last_digits places scaled)) (zeros_printed (last_digits places scaled) (last_printed places scaled)))

fixed_printed : (num den places : ℕ) → Printed (fixed_point num den places)
unfolding fixed_point
fixed_printed num den places =
    let scaled = round (num * 10 ^ places) den in
    both (decimal (scaled / 10 ^ places)) (after_point (last_digits places scaled)) (decimal_printed (scaled / 10 ^ places)) (point_printed (last_digits places scaled) (last_printed places scaled))

bytes_printed : (base : ℕ) (letters tail : List ℕ) (n : ℕ) → Printed letters → Printed tail → Printed (bytes_text base letters tail n)
unfolding bytes_text
bytes_printed base letters tail n l t =
    let k = prefix_exponent base 6 n in
    let number = fixed_point n (base ^ k) 2 in
    let letter = prefix_letter k letters in
    cond_both (nat_lt n base) (decimal n ++ codes " B") (number ++ codes " " ++ letter ++ tail) (λ x. Printed x)
    (λ _. both (decimal n) (codes " B") (decimal_printed n) (written (codes " B") refl))
    (λ _. both (number ++ codes " " ++ letter) tail
    (both (number ++ codes " ") letter (both number (codes " ") (fixed_printed n (base ^ k) 2) (written (codes " ") refl)) (taken 1 (drop (k - 1) letters) (dropped (k - 1) letters l))) t)

clock_printed : (nanos : ℕ) → Printed (formatted_duration nanos)
unfolding formatted_duration
clock_printed nanos =
    let seconds = nanos / nanos_per_second in
    let days = seconds / 86400 in
    let front : List ℕ = if days == 0 then [] else decimal days ++ codes "d " in
    let hours = last_digits 2 (seconds % 86400 / 3600) in
    let minutes = last_digits 2 (seconds % 3600 / 60) in
    let colon = written (codes ":") refl in
    let some = cond_both (days == 0) [] (decimal days ++ codes "d ") (λ x. Printed x) (λ _. tt) (λ _. both (decimal days) (codes "d ") (decimal_printed days) (written (codes "d ") refl)) in
    both (front ++ hours ++ codes ":" ++ minutes ++ codes ":") (last_digits 2 (seconds % 60))
    (both (front ++ hours ++ codes ":" ++ minutes) (codes ":")
    (both (front ++ hours ++ codes ":") minutes (both (front ++ hours) (codes ":") (both front hours some (last_printed 2 (seconds % 86400 / 3600))) colon)
    (last_printed 2 (seconds % 3600 / 60))) colon)
    (last_printed 2 (seconds % 60))

unit_printed : (nanos : ℕ) (unit : TimeSpan) (units : List TimeSpan) → Printed unit.name → AllByRecursion (λ u. Printed u.name) units → Printed (count_and_unit_in nanos unit units).1.name
unit_printed nanos unit [] p all = p
unit_printed nanos unit (next ∷ units) p all =
    cond_both (reaches nanos unit next) (max 2 (rounded_half_up nanos unit.nanos), unit) (count_and_unit_in nanos next units) (λ r. Printed r.1.name)
    (λ _. p) (λ _. unit_printed nanos next units all.0 all.1)

named_printed : (nanos : ℕ) → Printed (count_and_unit nanos).1.name
unfolding count_and_unit
named_printed nanos =
    unit_printed nanos year (week ∷ day ∷ hour ∷ minute ∷ second ∷ []) (written (codes "year") refl)
    (written (codes "week") refl, (written (codes "day") refl, (written (codes "hour") refl, (written (codes "minute") refl, (written (codes "second") refl, tt)))))

short_printed : (nanos : ℕ) → Printed (short_duration nanos)
unfolding short_duration
short_printed nanos =
    let told = count_and_unit nanos in
    both (decimal told.0) (take 1 told.1.name) (decimal_printed told.0) (taken 1 told.1.name (named_printed nanos))

all_of : (text : List ℕ) → Printed text → IsPrinted text
all_of text p = All-from_recursion (IsInRange 0x20 0x7E) text p

pub formatted_is_printed : FormattedIsPrinted
formatted_is_printed = record {
  numerals = λ n. all_of (decimal n) (decimal_printed n);
  counts = λ n. all_of (human_count n) (count_printed n);
  float_counts = λ num den places. all_of (human_float_count num den places) (float_printed num den places);
  decimals = λ num den places. all_of (fixed_point num den places) (fixed_printed num den places);
  binary = λ n. all_of (bytes_text 1024 (codes "KMGTPE") (codes "iB") n) (bytes_printed 1024 (codes "KMGTPE") (codes "iB") n (written (codes "KMGTPE") refl) (written (codes "iB") refl));
  thousands = λ n. all_of (bytes_text 1000 (codes "kMGTPE") (codes "B") n) (bytes_printed 1000 (codes "kMGTPE") (codes "B") n (written (codes "kMGTPE") refl) (written (codes "B") refl));
  clocks = λ nanos. all_of (formatted_duration nanos) (clock_printed nanos);
  shorts = λ nanos. all_of (short_duration nanos) (short_printed nanos);
}

-- ---- printable ASCII is plain

low : (text : List ℕ) → Printed text → AllByRecursion (λ b. b < 128) text
low [] p = tt
low (c ∷ cs) p = (omega (arith, p.0.1), low cs p.1)

seen : (text : List ℕ) → Printed text → visible text ≡ text
seen [] p = visible_none
seen (c ∷ cs) p = others_are_seen c cs (λ e. omega (arith, p.0.0, e)) ∙ ap (λ x. c ∷ x) (seen cs p.1)

some_by : (o : Option ℕ) → unwrap_or o 0 ≡ 1 → is_some o ≡ true
some_by None e = absurd (omega (arith, e))
some_by (Some n) e = refl

have_width : (text : List ℕ) → Printed text → list_all (λ c. is_some (char_width false c)) text ≡ true
have_width [] p = refl
have_width (c ∷ cs) p = rw (some_by (char_width false c) (plain_width c p.0)) (have_width cs p.1)

pub printed_is_plain : PrintedIsPlain
unfolding is_plain
printed_is_plain text all =
    let p = recursion_from_All (IsInRange 0x20 0x7E) text all in
    let ascii = IsAscii-from_all text (All-from_recursion (λ b. b < 128) text (low text p)) in
    let shown : visible (chars text) ≡ text = ap visible (chars-IsAscii text ascii) ∙ seen text p in
    (IsUtf8-from_ascii text ascii, ap (list_all (λ c. is_some (char_width false c))) shown ∙ have_width text p)
