-- The texts of the formatters, as functions of whole numbers: durations in nanoseconds, bytes, counts and quotients.
use Rattle.std.specs.Prelude.{ℕ, zero, suc, Bool, ◌+◌, ◌-◌, ◌*◌, ◌/◌, ◌%◌, ◌^◌, ◌&&◌, ◌||◌, ◌==◌, nat_lt, nat_le, max, List, [], ◌∷◌, ◌++◌, length, take, drop, if◌then◌else◌, codes, decimal}

-- ---- rounding and numerals

-- whether a quotient is rounded up: its remainder is above a half, or exactly a half with an odd number below
abbrev pub rounds_up : Bool → ℕ → ℕ → Bool
rounds_up odd rest b = nat_lt b (2 * rest) || ((2 * rest == b) && odd)

-- the whole number nearest to a / b, the even one of a tie
unfoldable pub round : ℕ → ℕ → ℕ
round a b = let below = a / b in if rounds_up (below % 2 == 1) (a % b) b then below + 1 else below

-- the last k decimal digits of n
abbrev pub last_digits : ℕ → ℕ → List ℕ
last_digits zero n = []
last_digits (suc k) n = last_digits k (n / 10) ++ (48 + n % 10) ∷ []

-- digits with a comma before each group of three from the right, except at the front
abbrev pub with_commas : List ℕ → List ℕ
with_commas [] = []
with_commas (d ∷ ds) =
    if nat_lt 0 (length ds) && (length ds % 3 == 0) then d ∷ 0x2C ∷ with_commas ds else d ∷ with_commas ds

-- digits without the zeros at their end
abbrev pub without_trailing_zeros : List ℕ → List ℕ
without_trailing_zeros [] = []
without_trailing_zeros (d ∷ ds) =
    if (d == 48) && (length (without_trailing_zeros ds) == 0) then [] else d ∷ without_trailing_zeros ds

-- a decimal point and these digits, or nothing if there are none
abbrev pub after_point : List ℕ → List ℕ
after_point [] = []
after_point (d ∷ ds) = 0x2E ∷ d ∷ ds

-- ---- counts

-- `HumanCount`: the numeral with a comma before every third digit from the right, except at the front
unfoldable pub human_count : ℕ → List ℕ
human_count n = with_commas (decimal n)

-- a quotient of whole numbers
pub record Quotient : Type 0 where
  pub num : ℕ
  pub den : ℕ

-- `HumanFloatCount` of num / den, rounded to the given number of decimals
unfoldable pub human_float_count : ℕ → ℕ → ℕ → List ℕ
human_float_count num den places =
    let scaled = round (num * 10 ^ places) den in
    human_count (scaled / 10 ^ places) ++ after_point (without_trailing_zeros (last_digits places scaled))

-- num / den with a fixed number of decimals
unfoldable pub fixed_point : ℕ → ℕ → ℕ → List ℕ
fixed_point num den places =
    let scaled = round (num * 10 ^ places) den in
    decimal (scaled / 10 ^ places) ++ after_point (last_digits places scaled)

-- ---- bytes

-- the greatest exponent from 1 to `most` whose power of the base is at most n, or 1
abbrev pub prefix_exponent : ℕ → ℕ → ℕ → ℕ
prefix_exponent base zero n = 1
prefix_exponent base (suc k) n = if nat_le (base ^ (k + 1)) n then k + 1 else prefix_exponent base k n

-- the letter of the k-th prefix
abbrev pub prefix_letter : ℕ → List ℕ → List ℕ
prefix_letter k letters = take 1 (drop (k - 1) letters)

-- a number of bytes, by the letters of the prefixes and the rest of the unit: the prefix is chosen before rounding
unfoldable pub bytes_text : ℕ → List ℕ → List ℕ → ℕ → List ℕ
bytes_text base letters tail n =
    if nat_lt n base then decimal n ++ codes " B"
    else let k = prefix_exponent base 6 n in fixed_point n (base ^ k) 2 ++ codes " " ++ prefix_letter k letters ++ tail

-- `BinaryBytes` and `HumanBytes`
abbrev pub binary_bytes : ℕ → List ℕ
binary_bytes = bytes_text 1024 (codes "KMGTPE") (codes "iB")

-- `DecimalBytes`
abbrev pub decimal_bytes : ℕ → List ℕ
decimal_bytes = bytes_text 1000 (codes "kMGTPE") (codes "B")

-- ---- durations, in nanoseconds

-- how many nanoseconds a second has
abbrev pub nanos_per_second : ℕ
nanos_per_second = 1000000000

-- `FormattedDuration`: the days if there are any, and hours, minutes and seconds
unfoldable pub formatted_duration : ℕ → List ℕ
formatted_duration nanos =
    let seconds = nanos / nanos_per_second in
    let days = seconds / 86400 in
    (if days == 0 then [] else decimal days ++ codes "d ") ++ last_digits 2 (seconds % 86400 / 3600) ++ codes ":"
    ++ last_digits 2 (seconds % 3600 / 60) ++ codes ":" ++ last_digits 2 (seconds % 60)

-- a unit of time
pub record TimeSpan : Type 0 where
  pub nanos : ℕ
  pub name : List ℕ

-- a year of 365 days
abbrev pub year : TimeSpan
year = record { nanos = 365 * 86400 * nanos_per_second; name = codes "year" }

-- a week of 7 days
abbrev pub week : TimeSpan
week = record { nanos = 7 * 86400 * nanos_per_second; name = codes "week" }

-- a day of 24 hours
abbrev pub day : TimeSpan
day = record { nanos = 86400 * nanos_per_second; name = codes "day" }

-- an hour of 60 minutes
abbrev pub hour : TimeSpan
hour = record { nanos = 3600 * nanos_per_second; name = codes "hour" }

-- a minute of 60 seconds
abbrev pub minute : TimeSpan
minute = record { nanos = 60 * nanos_per_second; name = codes "minute" }

-- a second
abbrev pub second : TimeSpan
second = record { nanos = nanos_per_second; name = codes "second" }

-- a duration in a unit, rounded to nearest, a half up
abbrev pub rounded_half_up : ℕ → ℕ → ℕ
rounded_half_up nanos unit = (2 * nanos + unit) / (2 * unit)

-- a duration reaches a unit: with half of the next smaller unit added, it is at least one and a half units
abbrev pub reaches : ℕ → TimeSpan → TimeSpan → Bool
reaches nanos unit next = nat_le (unit.nanos + unit.nanos / 2) (nanos + next.nanos / 2)

-- the count and the unit of a duration, from this unit and the smaller ones: the first unit that it reaches, with a count of at least 2; otherwise the last
abbrev pub count_and_unit_in : ℕ → TimeSpan → List TimeSpan → ℕ × TimeSpan
count_and_unit_in nanos unit [] = (rounded_half_up nanos unit.nanos, unit)
count_and_unit_in nanos unit (next ∷ units) =
    if reaches nanos unit next then (max 2 (rounded_half_up nanos unit.nanos), unit) else count_and_unit_in nanos next units

-- the count and the unit of a duration, from all units
unfoldable pub count_and_unit : ℕ → ℕ × TimeSpan
count_and_unit nanos = count_and_unit_in nanos year (week ∷ day ∷ hour ∷ minute ∷ second ∷ [])

-- `HumanDuration`
unfoldable pub human_duration : ℕ → List ℕ
human_duration nanos = decimal (count_and_unit nanos).0 ++ codes " " ++ (count_and_unit nanos).1.name ++ (if (count_and_unit nanos).0 == 1 then [] else codes "s")

-- its short form: the count and the unit's first letter
unfoldable pub short_duration : ℕ → List ℕ
short_duration nanos = decimal (count_and_unit nanos).0 ++ take 1 (count_and_unit nanos).1.name
