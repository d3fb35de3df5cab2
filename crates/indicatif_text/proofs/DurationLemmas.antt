-- Which unit a duration is told in, and what its text is.
use Rattle.std.proofs.Common.{◌≡◌, ℕ, ◌+◌, ◌/◌, ◌<◌, ◌≤◌, List, [], ◌∷◌, refl, ◌∙◌, arith}
use Rattle.std.specs.Prelude.{max}
use Rattle.std.proofs.lemmas.Bool.{le-leb, lt-leb}
use Rattle.indicatif_text.specs.Format.{TimeSpan, year, week, day, hour, minute, second, rounded_half_up, count_and_unit_in, count_and_unit}

reached : (n : ℕ) (unit next : TimeSpan) (units : List TimeSpan) → unit.nanos + unit.nanos / 2 ≤ n + next.nanos / 2
    → count_and_unit_in n unit (next ∷ units) ≡ (max 2 (rounded_half_up n unit.nanos), unit)
reached n unit next units enough = rw (le-leb (unit.nanos + unit.nanos / 2) (n + next.nanos / 2) enough) refl

missed : (n : ℕ) (unit next : TimeSpan) (units : List TimeSpan) → n + next.nanos / 2 < unit.nanos + unit.nanos / 2
    → count_and_unit_in n unit (next ∷ units) ≡ count_and_unit_in n next units
missed n unit next units few = rw (lt-leb (unit.nanos + unit.nanos / 2) (n + next.nanos / 2) few) refl

pub told-years : (n : ℕ) → 47001600000000000 ≤ n → count_and_unit n ≡ (max 2 (rounded_half_up n year.nanos), year)
unfolding count_and_unit
told-years n enough = reached n year week (day ∷ hour ∷ minute ∷ second ∷ []) (omega arith)

pub told-weeks : (n : ℕ) → n < 47001600000000000 → 864000000000000 ≤ n → count_and_unit n ≡ (max 2 (rounded_half_up n week.nanos), week)
unfolding count_and_unit
told-weeks n few enough = missed n year week (day ∷ hour ∷ minute ∷ second ∷ []) (omega arith) ∙ reached n week day (hour ∷ minute ∷ second ∷ []) (omega arith)

pub told-days : (n : ℕ) → n < 864000000000000 → 127800000000000 ≤ n → count_and_unit n ≡ (max 2 (rounded_half_up n day.nanos), day)
unfolding count_and_unit
told-days n few enough = missed n year week (day ∷ hour ∷ minute ∷ second ∷ []) (omega arith) ∙ missed n week day (hour ∷ minute ∷ second ∷ []) (omega arith)
    ∙ reached n day hour (minute ∷ second ∷ []) (omega arith)

pub told-hours : (n : ℕ) → n < 127800000000000 → 5370000000000 ≤ n → count_and_unit n ≡ (max 2 (rounded_half_up n hour.nanos), hour)
unfolding count_and_unit
told-hours n few enough = missed n year week (day ∷ hour ∷ minute ∷ second ∷ []) (omega arith) ∙ missed n week day (hour ∷ minute ∷ second ∷ []) (omega arith)
    ∙ missed n day hour (minute ∷ second ∷ []) (omega arith)
    ∙ reached n hour minute (second ∷ []) (omega arith)

pub told-minutes : (n : ℕ) → n < 5370000000000 → 89500000000 ≤ n → count_and_unit n ≡ (max 2 (rounded_half_up n minute.nanos), minute)
unfolding count_and_unit
told-minutes n few enough = missed n year week (day ∷ hour ∷ minute ∷ second ∷ []) (omega arith) ∙ missed n week day (hour ∷ minute ∷ second ∷ []) (omega arith)
    ∙ missed n day hour (minute ∷ second ∷ []) (omega arith)
    ∙ missed n hour minute (second ∷ []) (omega arith) ∙ reached n minute second [] (omega arith)

pub told-seconds : (n : ℕ) → n < 89500000000 → count_and_unit n ≡ (rounded_half_up n second.nanos, second)
unfolding count_and_unit
told-seconds n few = missed n year week (day ∷ hour ∷ minute ∷ second ∷ []) (omega arith) ∙ missed n week day (hour ∷ minute ∷ second ∷ []) (omega arith)
    ∙ missed n day hour (minute ∷ second ∷ []) (omega arith)
    ∙ missed n hour minute (second ∷ []) (omega arith) ∙ missed n minute second [] (omega arith)
