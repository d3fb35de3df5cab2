-- A bar's progress, as its style and its trackers see it. Texts are lists of bytes in UTF-8, moments and times nanoseconds.
use Rattle.std.specs.Prelude.{ℕ, ◌+◌, ◌-◌, Bool, true, false, min, List, [], Option, Some, None, if◌then◌else◌, unwrap_or}
use Rattle.indicatif_bar.specs.declared.measures.Fraction.{Fraction}
use Rattle.indicatif_bar.specs.declared.measures.Rate.{Rate}
use Rattle.indicatif_bar.specs.declared.measures.Samples.{Samples}
use Rattle.indicatif_bar.specs.declared.progress.Status.{Status}
use Rattle.indicatif_bar.specs.declared.progress.Status.TheVariants.{InProgress, DoneVisible, DoneHidden}
use Rattle.indicatif_bar.specs.Measures.{fraction_of, first_samples, restarted, rate_over, rate_since, time_for, greatest_u64}
use Rattle.indicatif_bar.specs.Tabs.{expanded}

pub record Progress : Type 0 where
  pub position : ℕ
  pub len : Option ℕ
  pub ticks : ℕ
  pub start : ℕ
  pub status : Status
  -- the duration that was stored as the bar finished
  pub took : ℕ
  pub samples : Samples
  -- as they were set; a tab is shown as `tab` spaces
  pub message : List ℕ
  pub prefix : List ℕ
  pub tab : ℕ

-- no progress yet, with a length or none, from a moment on
abbrev pub new_progress : Option ℕ → ℕ → Progress
new_progress len now =
    record { position = 0; len = len; ticks = 0; start = now; status = InProgress; took = 0; samples = first_samples now; message = []; prefix = []; tab = 8 }

abbrev pub is_done : Status → Bool
is_done InProgress = false
is_done DoneVisible = true
is_done DoneHidden = true

abbrev pub is_finished : Progress → Bool
is_finished p = is_done p.status

-- finished, and gone from the screen
abbrev pub is_gone : Status → Bool
is_gone DoneHidden = true
is_gone _ = false

abbrev pub is_hidden : Progress → Bool
is_hidden p = is_gone p.status

abbrev pub shown_message : Progress → List ℕ
shown_message p = expanded p.tab p.message

abbrev pub shown_prefix : Progress → List ℕ
shown_prefix p = expanded p.tab p.prefix

-- the length, or the position if there is none
abbrev pub length_shown : Progress → ℕ
length_shown p = unwrap_or p.len p.position

abbrev pub fraction : Progress → Fraction
fraction p = fraction_of p.position p.len

-- the time since the start
abbrev pub elapsed : Progress → ℕ → ℕ
elapsed p now = now - p.start

-- the rate since the last reset; of a finished bar, its position over the time since the start
abbrev pub per_sec : Progress → ℕ → Rate
per_sec p now = if is_finished p then rate_over p.position (elapsed p now) else rate_since p.samples now

-- the time to the end at the rate, and 0 if finished or without a length
abbrev pub eta : Progress → ℕ → ℕ
eta p now = elim p.len [ None ↦ 0 | Some n ↦ if is_finished p then 0 else time_for (per_sec p now) (n - p.position) ]

-- the time from the start to the end, as far as it is known
abbrev pub duration : Progress → ℕ → ℕ
duration p now = if is_finished p then p.took else elim p.len [ None ↦ 0 | Some n ↦ min (elapsed p now + eta p now) greatest_u64 ]

-- ---- what commands change

-- the position set to the length, if there is one
abbrev pub at_end : Progress → Progress
at_end p = record p { position = unwrap_or p.len p.position }

-- the rate counts from this moment
abbrev pub rate_reset : Progress → ℕ → Progress
rate_reset p now = record p { samples = restarted p.samples now }

-- everything counts from this moment, and the position is 0
abbrev pub progress_reset : Progress → ℕ → Progress
progress_reset p now = record (rate_reset p now) { start = now; position = 0; status = InProgress }
