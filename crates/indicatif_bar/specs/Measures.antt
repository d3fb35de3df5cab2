-- How far a bar is and how fast. Moments and times are nanoseconds, and a time from a start to an earlier moment is 0.
use Rattle.std.specs.Prelude.{ℕ, zero, suc, ◌-◌, ◌*◌, ◌/◌, ◌^◌, ◌&&◌, ◌==◌, nat_lt, min, List, Option, Some, None, if◌then◌else◌, fold}
use Rattle.indicatif_bar.specs.declared.measures.Fraction.{Fraction}
use Rattle.indicatif_bar.specs.declared.measures.Rate.{Rate}
use Rattle.indicatif_bar.specs.declared.measures.Sample.{Sample}
use Rattle.indicatif_bar.specs.declared.measures.Samples.{Samples}

-- 2^64 - 1
abbrev pub greatest_u64 : ℕ
greatest_u64 = 2 ^ 64 - 1

-- the part of the length that is done, at most all: 0 without a length, 1 at length 0
abbrev pub fraction_of : ℕ → Option ℕ → Fraction
fraction_of position None = record { num = 0; den = 1 }
fraction_of position (Some zero) = record { num = 1; den = 1 }
fraction_of position (Some (suc n)) = record { num = min position (suc n); den = suc n }

-- the samples of a new bar: no steps at its moment
abbrev pub first_samples : ℕ → Samples
first_samples making = let sample : Sample = record { steps = 0; moment = making } in record { base = sample; last = sample }

-- the samples after a record: steps that went back restart the count, and only more steps at a later moment count
abbrev pub recorded : Samples → ℕ → ℕ → Samples
recorded samples steps now =
    let sample : Sample = record { steps = steps; moment = now } in
    if nat_lt steps samples.last.steps then record { base = sample; last = sample }
    else if nat_lt samples.last.steps steps && nat_lt samples.last.moment now then record samples { last = sample }
    else samples

-- the samples after a list of records, each of steps and a moment
abbrev pub recorded_all : Samples → List (ℕ × ℕ) → Samples
recorded_all = fold (λ samples (steps, now). recorded samples steps now)

-- the samples after a reset: the rate is counted from here
abbrev pub restarted : Samples → ℕ → Samples
restarted samples now = let sample : Sample = record { steps = samples.last.steps; moment = now } in record { base = sample; last = sample }

-- steps over a time, no steps for no time
abbrev pub rate_over : ℕ → ℕ → Rate
rate_over steps zero = record { steps = 0; nanos = 1 }
rate_over steps (suc n) = record { steps = steps; nanos = suc n }

-- the rate between the samples, up to a moment
abbrev pub rate_since : Samples → ℕ → Rate
rate_since samples now = rate_over (samples.last.steps - samples.base.steps) (now - samples.base.moment)

-- the whole steps a second, at most `most`
abbrev pub steps_a_second : Rate → ℕ
steps_a_second rate = min (rate.steps * 1000000000 / rate.nanos) greatest_u64

-- the time that the steps that are left still take at a rate, at most `most`, and 0 at rate zero
abbrev pub time_for : Rate → ℕ → ℕ
time_for rate left = if rate.steps == 0 then 0 else min (left * rate.nanos / rate.steps) greatest_u64
