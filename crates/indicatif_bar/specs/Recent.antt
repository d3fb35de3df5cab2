-- The rate of the last seconds, which follows changes of speed. Moments and times are nanoseconds, texts lists of bytes in UTF-8.
use Rattle.std.specs.Prelude.{ℕ, ◌-◌, nat_lt, nat_le, List, Option, Some, None, if◌then◌else◌}
use Rattle.indicatif_bar.specs.declared.measures.Rate.{Rate}
use Rattle.indicatif_bar.specs.declared.measures.Sample.{Sample}
use Rattle.indicatif_bar.specs.declared.recent.LastSeconds.{LastSeconds}
use Rattle.indicatif_bar.specs.declared.recent.RecentKey.{RecentKey}
use Rattle.indicatif_bar.specs.declared.recent.RecentKey.TheVariants.{PerSec, BytesPerSec, DecimalBytesPerSec, Eta, EtaPrecise}
use Rattle.indicatif_bar.specs.declared.recent.Recent.{Recent}
use Rattle.indicatif_bar.specs.declared.style.keys.CountForm.TheVariants.{Binary, Decimal}
use Rattle.indicatif_bar.specs.declared.style.keys.TimeForm.TheVariants.{Clock, Short}
use Rattle.indicatif_bar.specs.Keys.{rate_text, whole_rate_text, time_text}
use Rattle.indicatif_bar.specs.Measures.{rate_over, time_for}
use Rattle.indicatif_bar.specs.Progress.{Progress, is_finished, per_sec}
use Rattle.indicatif_bar.specs.Trackers.{Tracking}

-- the two samples of a count that begins at a sample: the one that the rate is counted from, and the next one
abbrev pub from_sample : Sample → LastSeconds
from_sample now = record { older = now; newer = now }

-- the two samples after one more sample: fewer steps restart the count; once a second and a half has passed since the newer sample, the rate is counted from there, and later from this one
abbrev pub after_sample : LastSeconds → Sample → LastSeconds
after_sample s now =
    if nat_lt now.steps s.newer.steps then from_sample now
    else if nat_le 1_500_000_000 (now.moment - s.newer.moment) then record { older = s.newer; newer = now }
    else s

-- the steps since the older sample, over the time since then
abbrev pub recent_rate : LastSeconds → Sample → Rate
recent_rate s now = rate_over (now.steps - s.older.steps) (now.moment - s.older.moment)

-- ---- a bar's

-- where a bar stands
abbrev pub stands : Progress → ℕ → Sample
stands p now = record { steps = p.position; moment = now }

-- the rate of the last seconds, none before the first tick; of a finished bar, its position over the time since the start
abbrev pub rate_lately : Recent → Progress → ℕ → Rate
rate_lately recent p now =
    if is_finished p then per_sec p now
    else elim recent.seen [ None ↦ rate_over 0 0 | Some s ↦ recent_rate s (stands p now) ]

-- the time to the end at that rate, and 0 if finished or without a length
abbrev pub eta_lately : Recent → Progress → ℕ → ℕ
eta_lately recent p now = elim p.len [ None ↦ 0 | Some n ↦ if is_finished p then 0 else time_for (rate_lately recent p now) (n - p.position) ]

-- the text of a key, in the form of the library's key with this name
abbrev pub text_lately : RecentKey → Recent → Progress → ℕ → List ℕ
text_lately PerSec recent p now = rate_text (rate_lately recent p now) 4
text_lately BytesPerSec recent p now = whole_rate_text Binary (rate_lately recent p now)
text_lately DecimalBytesPerSec recent p now = whole_rate_text Decimal (rate_lately recent p now)
text_lately Eta recent p now = time_text Short (eta_lately recent p now)
text_lately EtaPrecise recent p now = time_text Clock (eta_lately recent p now)

-- the samples after a tick: one more, or the first
abbrev pub seen_after : Option LastSeconds → Sample → LastSeconds
seen_after None now = from_sample now
seen_after (Some s) now = after_sample s now

-- the meaning of these trackers
abbrev pub tells_lately : Tracking Recent
tells_lately = record {
  text = λ recent p now. text_lately recent.key recent p now;
  ticked = λ recent p now. record recent { seen = Some (seen_after recent.seen (stands p now)) };
  was_reset = λ recent p now. record recent { seen = Some (from_sample (stands p now)) };
}
