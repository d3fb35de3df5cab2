-- Laws of the formatters' texts, independent of their definitions.
use Rattle.std.specs.Prelude.{◌≡◌, ◌≢◌, ℕ, ◌+◌, ◌-◌, ◌*◌, ◌/◌, ◌%◌, ◌^◌, ◌<◌, ◌≤◌, ◌⊎◌, ◌==◌, not, List, [], ◌∷◌, ◌++◌, length, take, drop, replicate, filter, slice_get, Some, IsTrue, decimal, codes}
use Rattle.std.specs.Prelude.{All}
use Rattle.std.specs.Int.{IsInRange}
use Rattle.std.specs.Char.{is_ascii_digit}
use Rattle.std.specs.List.{before_first, after_first}
use Rattle.std.specs.Str.Parse.{digits_value}
use Rattle.indicatif_text.specs.Format.{round, last_digits, without_trailing_zeros, human_count, human_float_count, fixed_point, prefix_exponent, binary_bytes, decimal_bytes, nanos_per_second, formatted_duration, human_duration, short_duration, TimeSpan, year, week, day, hour, minute, second, rounded_half_up, reaches, count_and_unit}

-- ---- the parts of a text

-- the digits of a text, in order
abbrev pub digits_in : List ℕ → List ℕ
digits_in text = filter is_ascii_digit text

-- the part before the point; all of it if there is none
abbrev pub whole_in : List ℕ → List ℕ
whole_in text = before_first (λ c. c == 0x2E) text

-- the part after the point; nothing if there is none
abbrev pub decimals_in : List ℕ → List ℕ
decimals_in text = after_first (λ c. c == 0x2E) text

-- the part before the first space
abbrev pub number_in : List ℕ → List ℕ
number_in text = before_first (λ c. c == 0x20) text

-- the part after the first space
abbrev pub unit_in : List ℕ → List ℕ
unit_in text = after_first (λ c. c == 0x20) text

-- ---- rounding

-- a rounded quotient is at most half a unit from the true one
abbrev pub RoundsByHalf : Type 0
RoundsByHalf = (a b : ℕ) → 0 < b → (2 * (round a b * b) ≤ 2 * a + b) × (2 * a ≤ 2 * (round a b * b) + b)

-- and even if it is exactly half a unit away
abbrev pub TiesToEven : Type 0
TiesToEven = (a b : ℕ) → 0 < b → (2 * (round a b * b) ≡ 2 * a + b) ⊎ (2 * a ≡ 2 * (round a b * b) + b) → round a b % 2 ≡ 0

-- a count of a unit of time is at most half a unit from the true one, and exactly half a unit rounds up
abbrev pub RoundsHalfUp : Type 0
RoundsHalfUp = (nanos unit : ℕ) → 0 < unit
    → (2 * (rounded_half_up nanos unit * unit) ≤ 2 * nanos + unit) × (2 * nanos < 2 * (rounded_half_up nanos unit * unit) + unit)

-- ---- numerals

-- the last digits are the number's remainder by that power of ten, with as many digits
abbrev pub LastDigitsAreRest : Type 0
LastDigitsAreRest = (k n : ℕ) → (length (last_digits k n) ≡ k) × (digits_value 10 (last_digits k n) ≡ n % 10 ^ k)

-- a count without its commas is the number's decimal numeral. `decimal` gives the last 64 digits, so these laws hold for numbers with at most 64, as all of 128 bits have
abbrev pub CommasAside : Type 0
CommasAside = (n : ℕ) → n < 10 ^ 64 → filter (λ d. not (d == 0x2C)) (human_count n) ≡ decimal n

-- and that numeral spells the number
abbrev pub NumeralSpells : Type 0
NumeralSpells = (n : ℕ) → n < 10 ^ 64 → digits_value 10 (decimal n) ≡ n

-- a count of up to three digits has no comma; a greater one is the count of its thousands, a comma and the last three digits
abbrev pub CommasByThousands : Type 0
CommasByThousands = (n : ℕ) → n < 10 ^ 64
    → (n < 1000 → human_count n ≡ decimal n) × (1000 ≤ n → human_count n ≡ human_count (n / 1000) ++ (0x2C ∷ last_digits 3 n))

-- the digits before and after the point, read as one numeral, are the rounded quotient in units of the last place: with any number of decimals, if the whole part has at most 64 digits
abbrev pub DigitsSpell : Type 0
DigitsSpell = (k n : ℕ) → n / 10 ^ k < 10 ^ 64 → digits_value 10 (decimal (n / 10 ^ k) ++ last_digits k n) ≡ n

-- dropping zeros drops only zeros at the end, and all of them
abbrev pub OnlyZerosDropped : Type 0
OnlyZerosDropped = (ds : List ℕ) → (k : ℕ) × (without_trailing_zeros ds ++ replicate k 48 ≡ ds)

-- no zero is left at the end
abbrev pub NoZeroLeft : Type 0
NoZeroLeft = (ds es : List ℕ) → without_trailing_zeros ds ≢ es ++ (48 ∷ [])

-- ---- counts with decimals

-- the digits of a quotient's text, filled with zeros to the requested decimals, spell the rounded quotient in units of the last place
abbrev pub FloatCountSpells : Type 0
FloatCountSpells = (num den places : ℕ) → num < 2 ^ 128 →
    let text = human_float_count num den places in
    (length (decimals_in text) ≤ places)
    × (digits_value 10 (digits_in text) * 10 ^ (places - length (decimals_in text)) ≡ round (num * 10 ^ places) den)

-- a count stands before its point
abbrev pub FloatCountCounts : Type 0
FloatCountCounts = (num den places : ℕ) → num < 2 ^ 128
    → whole_in (human_float_count num den places) ≡ human_count (round (num * 10 ^ places) den / 10 ^ places)

-- and it ends neither in a zero after the point, nor in a point
abbrev pub FloatCountEnds : Type 0
FloatCountEnds = (num den places : ℕ) (front : List ℕ) → num < 2 ^ 128 →
    let text = human_float_count num den places in
    (decimals_in text ≢ front ++ (48 ∷ [])) × (text ≢ front ++ (0x2E ∷ []))

-- ---- bytes

-- the prefix's power is the greatest of the first six that is at most the number
abbrev pub GreatestPrefix : Type 0
GreatestPrefix = (base n : ℕ) → 0 < base → base ≤ n
    → (1 ≤ prefix_exponent base 6 n) × (prefix_exponent base 6 n ≤ 6) × (base ^ prefix_exponent base 6 n ≤ n)
    × ((k : ℕ) → k ≤ 6 → base ^ k ≤ n → k ≤ prefix_exponent base 6 n)

-- the units of numbers of bytes by powers of 1024, from the power 0 on
abbrev pub binary_units : List (List ℕ)
binary_units = codes "B" ∷ codes "KiB" ∷ codes "MiB" ∷ codes "GiB" ∷ codes "TiB" ∷ codes "PiB" ∷ codes "EiB" ∷ []

-- and by powers of 1000
abbrev pub decimal_units : List (List ℕ)
decimal_units = codes "B" ∷ codes "kB" ∷ codes "MB" ∷ codes "GB" ∷ codes "TB" ∷ codes "PB" ∷ codes "EB" ∷ []

-- the text gives n bytes in the k-th of these units, the greatest that leaves at least 1: below the base by their numeral, otherwise rounded to hundredths, with two decimals
pub record TellsBytes (base : ℕ) (units : List (List ℕ)) (n k : ℕ) (text : List ℕ) : Type 0 where
  pub reached : 0 < k → base ^ k ≤ n
  pub greatest : (j : ℕ) → j ≤ 6 → base ^ j ≤ n → j ≤ k
  pub unit : slice_get units k ≡ Some (unit_in text)
  pub whole : k ≡ 0 → number_in text ≡ decimal n
  pub decimals : 0 < k → length (decimals_in (number_in text)) ≡ 2
  pub spells : 0 < k → digits_value 10 (digits_in (number_in text)) ≡ round (n * 100) (base ^ k)

-- of binary bytes
abbrev pub BinaryBytesTell : Type 0
BinaryBytesTell = (n : ℕ) → n < 2 ^ 64 → (k : ℕ) × TellsBytes 1024 binary_units n k (binary_bytes n)

-- and of decimal ones
abbrev pub DecimalBytesTell : Type 0
DecimalBytesTell = (n : ℕ) → n < 2 ^ 64 → (k : ℕ) × TellsBytes 1000 decimal_units n k (decimal_bytes n)

-- ---- durations

-- the seconds of a text: `HH:MM:SS` at its end, after whole days and `d `
abbrev pub seconds_told : List ℕ → ℕ
seconds_told text =
    let front = length text - 8 in
    let clock = drop front text in
    digits_value 10 (take (front - 2) text) * 86400 + digits_value 10 (take 2 clock) * 3600 + digits_value 10 (take 2 (drop 3 clock)) * 60
    + digits_value 10 (drop 6 clock)

-- a duration's text gives back its whole seconds
abbrev pub TellsSeconds : Type 0
TellsSeconds = (n : ℕ) → n < 2 ^ 64 → seconds_told (formatted_duration n) ≡ n / nanos_per_second

-- a unit that a duration reaches is no longer than the unit of its text
abbrev pub IsNotPast : ℕ → TimeSpan → TimeSpan → Type 0
IsNotPast n unit next = IsTrue (reaches n unit next) → unit.nanos ≤ (count_and_unit n).1.nanos

-- no unit that a duration reaches is longer than the unit of its text
abbrev pub NoLongerUnit : Type 0
NoLongerUnit = (n : ℕ)
    → IsNotPast n year week × IsNotPast n week day × IsNotPast n day hour × IsNotPast n hour minute × IsNotPast n minute second

-- a duration reaches the unit of its text
abbrev pub IsReached : ℕ → TimeSpan → TimeSpan → Type 0
IsReached n unit next = ((count_and_unit n).1 ≡ unit) × IsTrue (reaches n unit next)

-- or the unit is seconds
abbrev pub ReachesUnit : Type 0
ReachesUnit = (n : ℕ)
    → IsReached n year week ⊎ (IsReached n week day ⊎ (IsReached n day hour ⊎ (IsReached n hour minute ⊎ (IsReached n minute second ⊎ ((count_and_unit n).1 ≡ second)))))

-- before the space of a duration in words stands the count's numeral, and after it the unit, with an `s` unless the count is 1
abbrev pub WordsTell : Type 0
WordsTell = (n : ℕ) → n < 2 ^ 64 →
    let text = human_duration n in
    (digits_value 10 (number_in text) ≡ (count_and_unit n).0) × (number_in text ≡ decimal (count_and_unit n).0)
    × ((count_and_unit n).0 ≡ 1 → unit_in text ≡ (count_and_unit n).1.name) × ((count_and_unit n).0 ≢ 1 → unit_in text ≡ (count_and_unit n).1.name ++ codes "s")

-- the short form is the count and the first letter after the space
abbrev pub ShortIsWords : Type 0
ShortIsWords = (n : ℕ) → n < 2 ^ 64 →
    let text = human_duration n in short_duration n ≡ number_in text ++ take 1 (unit_in text)

-- ---- characters

-- a text of printable ASCII
abbrev pub IsPrinted : List ℕ → Type 0
IsPrinted text = All (IsInRange 0x20 0x7E) text

-- the texts of numbers are such texts
pub record FormattedIsPrinted : Type 0 where
  pub numerals : (n : ℕ) → IsPrinted (decimal n)
  pub counts : (n : ℕ) → IsPrinted (human_count n)
  pub float_counts : (num den places : ℕ) → IsPrinted (human_float_count num den places)
  pub decimals : (num den places : ℕ) → IsPrinted (fixed_point num den places)
  pub binary : (n : ℕ) → IsPrinted (binary_bytes n)
  pub thousands : (n : ℕ) → IsPrinted (decimal_bytes n)
  pub clocks : (nanos : ℕ) → IsPrinted (formatted_duration nanos)
  pub shorts : (nanos : ℕ) → IsPrinted (short_duration nanos)
