-- Laws of the measures, the texts and the commands of a bar.
use Rattle.std.specs.Prelude.{◌≡◌, ◌≢◌, ◌↔◌, ◌<◌, ◌≤◌, ℕ, suc, ◌*◌, Option, Some, IsTrue}
use Rattle.indicatif_bar.specs.declared.ask.Ask.TheVariants.{Unforced}
use Rattle.indicatif_bar.specs.declared.measures.Rate.{Rate}
use Rattle.indicatif_bar.specs.Measures.{greatest_u64, fraction_of, time_for, steps_a_second}
use Rattle.indicatif_bar.specs.Progress.{Progress, per_sec, eta, duration, fraction, is_finished}
use Rattle.indicatif_bar.specs.Trackers.{Tracking}
use Rattle.indicatif_bar.specs.Commands.{BarRecord, Command, obeyed, new_bar}
use Rattle.indicatif_bar.specs.Styles.{BarStyle}

-- a fraction is at most 1: its denominator is above 0, and its numerator no greater
abbrev pub FractionsAreProper : Type 0
FractionsAreProper = (p : Progress) → (0 < (fraction p).den) × ((fraction p).num ≤ (fraction p).den)

-- a fraction is 1 exactly from the length on
abbrev pub WholeAtTheEnd : Type 0
WholeAtTheEnd = (position n : ℕ) → (n ≤ position) ↔ ((fraction_of position (Some n)).num ≡ (fraction_of position (Some n)).den)

-- a rate is over some time
abbrev pub RatesHaveTime : Type 0
RatesHaveTime = (p : Progress) (now : ℕ) → 0 < (per_sec p now).nanos

-- times left and whole times fit in 64 bits, if the stored one does
abbrev pub TimesFit : Type 0
TimesFit = (p : Progress) (now : ℕ) → (eta p now ≤ greatest_u64) × (p.took ≤ greatest_u64 → duration p now ≤ greatest_u64)

-- the time for some steps is their quotient by the rate, rounded down, or the maximum
abbrev pub TimesAreQuotients : Type 0
TimesAreQuotients = (rate : Rate) (left : ℕ) → 0 < rate.steps → time_for rate left < greatest_u64 →
    (time_for rate left * rate.steps ≤ left * rate.nanos) × (left * rate.nanos < suc (time_for rate left) * rate.steps)

-- the whole steps a second are the quotient of steps by seconds, rounded down, or the maximum
abbrev pub StepsAreQuotients : Type 0
StepsAreQuotients = (rate : Rate) → 0 < rate.nanos → steps_a_second rate < greatest_u64 →
    (steps_a_second rate * rate.nanos ≤ rate.steps * 1000000000) × (rate.steps * 1000000000 < suc (steps_a_second rate) * rate.nanos)

-- the tab width is the same in a bar's style and in its texts, at first and after each command
abbrev pub TabsAgree : Type 0 → Type 0
TabsAgree K = (m : Tracking K) (style : BarStyle K) (len : Option ℕ) (bar : BarRecord K) (command : Command K) (now : ℕ) →
    ((new_bar style len now).style.tab ≡ (new_bar style len now).progress.tab)
    × (bar.style.tab ≡ bar.progress.tab → (obeyed m command bar now).0.style.tab ≡ (obeyed m command bar now).0.progress.tab)

-- no command asks for an unforced draw of a bar that it leaves finished
abbrev pub FinishedDrawsAreForced : Type 0 → Type 0
FinishedDrawsAreForced K = (m : Tracking K) (bar : BarRecord K) (command : Command K) (now : ℕ) →
    IsTrue (is_finished (obeyed m command bar now).0.progress) → (obeyed m command bar now).1 ≢ Unforced
