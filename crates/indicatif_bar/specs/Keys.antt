-- The keys of a template that need no tracker: their names, and the bars, texts and numbers that they show. Texts are lists of bytes in UTF-8.
use Rattle.std.specs.Prelude.{ℕ, ◌-◌, ◌*◌, ◌%◌, min, List, [], ◌∷◌, ◌++◌, length, Option, Some, None, if◌then◌else◌, unwrap_or, codes, decimal, bytes_eq}
use Rattle.std.specs.List.{slice_index_or}
use Rattle.indicatif_text.specs.Format.{human_count, human_float_count, fixed_point, binary_bytes, decimal_bytes, formatted_duration, short_duration}
use Rattle.indicatif_bar.specs.declared.measures.Fraction.{Fraction}
use Rattle.indicatif_bar.specs.declared.measures.Rate.{Rate}
use Rattle.indicatif_bar.specs.declared.style.keys.CountForm.{CountForm}
use Rattle.indicatif_bar.specs.declared.style.keys.CountForm.TheVariants.{Plain, Human, Binary, Decimal}
use Rattle.indicatif_bar.specs.declared.style.keys.TimeForm.{TimeForm}
use Rattle.indicatif_bar.specs.declared.style.keys.TimeForm.TheVariants.{Clock, Short}
use Rattle.indicatif_bar.specs.declared.style.keys.BarKey.{BarKey}
use Rattle.indicatif_bar.specs.declared.style.keys.BarKey.TheVariants.{PartDone}
use Rattle.indicatif_bar.specs.declared.style.keys.TextKey.{TextKey}
use Rattle.indicatif_bar.specs.declared.style.keys.TextKey.TheVariants.{Spinner, Prefix, Message}
use Rattle.indicatif_bar.specs.declared.style.keys.NumberKey.{NumberKey}
use Rattle.indicatif_bar.specs.declared.style.keys.NumberKey.TheVariants.{Position, Length, Percent, Elapsed, Eta, Duration, PerSecond, BytesPerSecond}
use Rattle.indicatif_bar.specs.declared.style.keys.Key.{Key}
use Rattle.indicatif_bar.specs.declared.style.keys.Key.TheVariants as key
use Rattle.indicatif_bar.specs.Measures.{steps_a_second}
use Rattle.indicatif_bar.specs.Progress.{Progress, is_finished, shown_message, shown_prefix, length_shown, fraction, elapsed, per_sec, eta, duration}

-- the first entry with a name
abbrev pub named : {X : Type 0} → List ℕ → List (List ℕ × X) → Option X
named name [] = None
named name (entry ∷ entries) = if bytes_eq name entry.0 then Some entry.1 else named name entries

-- the keys and their names
abbrev pub key_names : List (List ℕ × Key)
key_names =
    (codes "bar", key.Bar PartDone) ∷ (codes "wide_bar", key.WideBar PartDone) ∷ (codes "wide_msg", key.WideText Message)
    ∷ (codes "spinner", key.Text Spinner) ∷ (codes "prefix", key.Text Prefix) ∷ (codes "msg", key.Text Message)
    ∷ (codes "pos", key.Number (Position Plain)) ∷ (codes "human_pos", key.Number (Position Human)) ∷ (codes "bytes", key.Number (Position Binary))
    ∷ (codes "binary_bytes", key.Number (Position Binary)) ∷ (codes "decimal_bytes", key.Number (Position Decimal))
    ∷ (codes "len", key.Number (Length Plain)) ∷ (codes "human_len", key.Number (Length Human)) ∷ (codes "total_bytes", key.Number (Length Binary))
    ∷ (codes "binary_total_bytes", key.Number (Length Binary)) ∷ (codes "decimal_total_bytes", key.Number (Length Decimal))
    ∷ (codes "percent", key.Number (Percent 0)) ∷ (codes "percent_precise", key.Number (Percent 3))
    ∷ (codes "elapsed", key.Number (Elapsed Short)) ∷ (codes "elapsed_precise", key.Number (Elapsed Clock))
    ∷ (codes "eta", key.Number (Eta Short)) ∷ (codes "eta_precise", key.Number (Eta Clock))
    ∷ (codes "duration", key.Number (Duration Short)) ∷ (codes "duration_precise", key.Number (Duration Clock))
    ∷ (codes "per_sec", key.Number PerSecond) ∷ (codes "bytes_per_sec", key.Number (BytesPerSecond Binary))
    ∷ (codes "binary_bytes_per_sec", key.Number (BytesPerSecond Binary)) ∷ (codes "decimal_bytes_per_sec", key.Number (BytesPerSecond Decimal)) ∷ []

-- the key with a name
abbrev pub key_named : List ℕ → Option Key
key_named name = named name key_names

-- ---- bars

-- the fraction that a bar shows
abbrev pub bar_fraction : Progress → BarKey → Fraction
bar_fraction p PartDone = fraction p

-- ---- texts

-- the n-th text of a spinner, and the last one of a finished bar
abbrev pub tick_string : List (List ℕ) → ℕ → List ℕ
tick_string strings n = slice_index_or strings (n % (length strings - 1)) []

abbrev pub final_tick_string : List (List ℕ) → List ℕ
final_tick_string strings = slice_index_or strings (length strings - 1) []

-- the text that a key shows, with these texts of a spinner
abbrev pub shown_text : List (List ℕ) → Progress → TextKey → List ℕ
shown_text strings p Spinner = if is_finished p then final_tick_string strings else tick_string strings p.ticks
shown_text strings p Prefix = shown_prefix p
shown_text strings p Message = shown_message p

-- ---- numbers

-- a count in its form
abbrev pub count_text : CountForm → ℕ → List ℕ
count_text Plain n = decimal n
count_text Human n = human_count n
count_text Binary n = binary_bytes n
count_text Decimal n = decimal_bytes n

-- a time in its form, in nanoseconds
abbrev pub time_text : TimeForm → ℕ → List ℕ
time_text Clock nanos = formatted_duration nanos
time_text Short nanos = short_duration nanos

-- a fraction in hundredths, with the given number of decimals
abbrev pub percent_text : Fraction → ℕ → List ℕ
percent_text f places = fixed_point (100 * f.num) f.den places

-- the steps a second, rounded to the given number of decimals
abbrev pub rate_text : Rate → ℕ → List ℕ
rate_text rate places = human_float_count (1000000000 * rate.steps) rate.nanos places ++ codes "/s"

-- the whole steps a second, in a form
abbrev pub whole_rate_text : CountForm → Rate → List ℕ
whole_rate_text form rate = count_text form (steps_a_second rate) ++ codes "/s"

-- the number that a key shows, for a placeholder of this width
abbrev pub number_text : Progress → ℕ → Option ℕ → NumberKey → List ℕ
number_text p now width (Position form) = count_text form p.position
number_text p now width (Length form) = count_text form (length_shown p)
number_text p now width (Percent places) = percent_text (fraction p) (min places 16)
number_text p now width (Elapsed form) = time_text form (elapsed p now)
number_text p now width (Eta form) = time_text form (eta p now)
number_text p now width (Duration form) = time_text form (duration p now)
number_text p now width PerSecond = rate_text (per_sec p now) (unwrap_or width 4)
number_text p now width (BytesPerSecond form) = whole_rate_text form (per_sec p now)
