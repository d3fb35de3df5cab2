-- Worked cases of measures and of commands. A second is 1,000,000,000 nanoseconds.
use Rattle.std.specs.Prelude.{◌≡◌, ℕ, ◌*◌, [], ◌∷◌, ◌++◌, List, replicate, Option, Some, None, codes, true}
use Rattle.indicatif_bar.specs.declared.ask.Ask.{Ask}
use Rattle.indicatif_bar.specs.declared.ask.Ask.TheVariants.{No, Unforced, Forced}
use Rattle.indicatif_bar.specs.declared.measures.Rate.{Rate}
use Rattle.indicatif_bar.specs.declared.measures.Fraction.{Fraction}
use Rattle.indicatif_bar.specs.Measures.{greatest_u64, fraction_of, first_samples, recorded, recorded_all, restarted, rate_since, time_for, steps_a_second}
use Rattle.indicatif_bar.specs.Progress.{eta, per_sec, elapsed, duration, shown_message}
use Rattle.indicatif_bar.specs.Finishes.{AndLeave, Abandon, WithMessage}
use Rattle.indicatif_bar.specs.Trackers.{writes_nothing}
use Rattle.indicatif_bar.specs.Styles.{BarStyle}
use Rattle.indicatif_bar.specs.Commands.{BarRecord, Command, Inc, Dec, SetPosition, WithPosition, Tick, TickerTick, SetTicker, SetMessage, SetTabWidth, SetLength, IncLength, DecLength, SetElapsed, ResetEta, Reset, Finish, FinishUsingStyle, WithFinish, new_bar, obeyed, is_beyond_clock}

abbrev pub ms : ℕ
ms = 1000000

abbrev pub one_second : ℕ
one_second = 1000 * ms

-- the bar after commands at their moments
abbrev pub after_all : BarRecord ℕ → List (Command ℕ × ℕ) → BarRecord ℕ
after_all bar [] = bar
after_all bar ((command, now) ∷ commands) = after_all (obeyed writes_nothing command bar now).0 commands

-- the draws that the commands ask for
abbrev pub asks_of : BarRecord ℕ → List (Command ℕ × ℕ) → List Ask
asks_of bar [] = []
asks_of bar ((command, now) ∷ commands) = (obeyed writes_nothing command bar now).1 ∷ asks_of (obeyed writes_nothing command bar now).0 commands

-- a fraction of the greatest numbers; no length; a position past the length; length 0
abbrev pub Fractions : Type 0
Fractions =
    let whole : Fraction = record { num = greatest_u64; den = greatest_u64 } in
    let least : Fraction = record { num = 1; den = greatest_u64 } in
    let none : Fraction = record { num = 0; den = 1 } in
    let full : Fraction = record { num = 4; den = 4 } in
    let done : Fraction = record { num = 1; den = 1 } in
    (fraction_of greatest_u64 (Some greatest_u64) ≡ whole) × (fraction_of 1 (Some greatest_u64) ≡ least) × (fraction_of greatest_u64 None ≡ none)
    × (fraction_of 9 (Some 4) ≡ full) × (fraction_of 0 (Some 0) ≡ done)

-- the greatest numbers: times and steps a second stop at the maximum
abbrev pub Greatest : Type 0
Greatest =
    let slow : Rate = record { steps = 1; nanos = greatest_u64 } in
    let fast : Rate = record { steps = greatest_u64; nanos = 1 } in
    (time_for slow greatest_u64 ≡ greatest_u64) × (time_for slow 1 ≡ greatest_u64) × (time_for fast greatest_u64 ≡ 1) × (steps_a_second fast ≡ greatest_u64) × (steps_a_second slow ≡ 0)

-- a rate since a reset; steps that went back restart it
abbrev pub Rates : Type 0
Rates =
    let one : Rate = record { steps = 1; nanos = 1000000000 } in
    let none : Rate = record { steps = 0; nanos = 1000000000 } in
    (rate_since (recorded (restarted (recorded (first_samples 0) 2 one_second) one_second) 3 (2 * one_second)) (2 * one_second) ≡ one)
    × (rate_since (recorded_all (first_samples 0) ((5, one_second) ∷ (2, 2 * one_second) ∷ [])) (3 * one_second) ≡ none)

-- ---- commands of a bar, whatever its style

module _ (style : BarStyle ℕ) where
  -- a bar as made at moment 0
  abbrev pub plain_record : Option ℕ → BarRecord ℕ
  plain_record len = new_bar style len 0

  -- twelve steps at the moment of making, and one a millisecond later: ten ask for a draw, two don't, the last does
  abbrev pub TwelveSteps : Type 0
  TwelveSteps = (asks_of (plain_record None) (replicate 12 (Inc 1, 0) ++ (Inc 1, ms) ∷ []) ≡ replicate 10 Unforced ++ No ∷ No ∷ Unforced ∷ [])
      × ((after_all (plain_record None) (replicate 12 (Inc 1, 0))).progress.position ≡ 12)
      × ((after_all (plain_record None) (replicate 12 (Inc 1, 0))).progress.ticks ≡ 10)
      × ((after_all (plain_record None) (replicate 12 (Inc 1, 0) ++ (Inc 1, ms) ∷ [])).progress.position ≡ 13)

  -- three of nine in two seconds: three steps in two seconds, and four seconds to come
  abbrev pub RateAndEta : Type 0
  RateAndEta =
      let bar = after_all (plain_record (Some 9)) ((SetPosition 3, 2 * one_second) ∷ []) in
      let rate : Rate = record { steps = 3; nanos = 2000000000 } in
      (per_sec bar.progress (2 * one_second) ≡ rate) × (eta bar.progress (2 * one_second) ≡ 4 * one_second) × (duration bar.progress (2 * one_second) ≡ 6 * one_second)

  -- a finished bar's draws are forced, and with an installed ticker, a tick does nothing
  abbrev pub Asks : Type 0
  Asks = (asks_of (plain_record None) ((Tick, 0) ∷ (Finish AndLeave, 0) ∷ (Tick, 0) ∷ []) ≡ Unforced ∷ Forced ∷ Forced ∷ [])
      × (asks_of (plain_record None) ((SetTicker true, 0) ∷ (Inc 1, 0) ∷ (TickerTick, 0) ∷ []) ≡ No ∷ No ∷ Unforced ∷ [])
      × ((after_all (plain_record None) ((SetTicker true, 0) ∷ (Inc 1, 0) ∷ [])).progress.position ≡ 1)

  -- the rate since a reset of it, of steps that went back, and the time that is left then
  abbrev pub ResetRates : Type 0
  ResetRates =
      let slow = after_all (plain_record None) ((WithPosition 2, 0) ∷ (Tick, one_second) ∷ (ResetEta, one_second) ∷ (SetPosition 3, 2 * one_second) ∷ []) in
      let back = after_all (plain_record (Some 9)) ((SetPosition 5, one_second) ∷ (SetPosition 2, 2 * one_second) ∷ []) in
      let rate : Rate = record { steps = 1; nanos = 1000000000 } in
      (per_sec slow.progress (2 * one_second) ≡ rate) × ((per_sec back.progress (3 * one_second)).steps ≡ 0) × (eta back.progress (3 * one_second) ≡ 0)

  -- positions wrap; lengths stop at both ends, and no length stays none
  abbrev pub WrapsAndStops : Type 0
  WrapsAndStops = ((after_all (plain_record None) ((Dec 1, 0) ∷ [])).progress.position ≡ greatest_u64)
      × ((after_all (plain_record None) ((SetPosition greatest_u64, 0) ∷ (Inc 2, 0) ∷ [])).progress.position ≡ 1)
      × ((after_all (plain_record None) ((SetLength greatest_u64, 0) ∷ (IncLength 1, 0) ∷ [])).progress.len ≡ Some greatest_u64)
      × ((after_all (plain_record None) ((SetLength 3, 0) ∷ (DecLength 5, 0) ∷ [])).progress.len ≡ Some 0)
      × ((after_all (plain_record None) ((IncLength 5, 0) ∷ [])).progress.len ≡ None)

  -- an elapsed time beyond the moment is refused; one that isn't sets the start
  abbrev pub ElapsedTimes : Type 0
  ElapsedTimes = (is_beyond_clock {K = ℕ} (SetElapsed 5) 4 ≡ true) × (after_all (plain_record None) ((SetElapsed 5, 4) ∷ []) ≡ plain_record None)
      × (elapsed (after_all (plain_record None) ((SetElapsed 5, 5) ∷ [])).progress 7 ≡ 7)

  -- a tab is eight spaces, or the tab width that was set
  abbrev pub TabWidths : Type 0
  TabWidths =
      let tabbed = after_all (plain_record None) ((SetMessage (codes "a" ++ (9 ∷ []) ++ codes "b"), 0) ∷ []) in
      (shown_message tabbed.progress ≡ codes "a        b") × (shown_message (obeyed writes_nothing (SetTabWidth 2) tabbed 0).0.progress ≡ codes "a  b")

  -- each finish: where the bar stands afterwards, and the duration
  abbrev pub Finishes : Type 0
  Finishes =
      let half = after_all (plain_record (Some 10)) ((WithPosition 5, 0) ∷ []) in
      let left = after_all half ((Finish AndLeave, 3) ∷ []) in
      let told = after_all half ((Finish (WithMessage (codes "done")), 3) ∷ []) in
      let gone = after_all half ((FinishUsingStyle, 3) ∷ []) in
      let left_off = after_all half ((WithFinish Abandon, 0) ∷ (FinishUsingStyle, 3) ∷ []) in
      (left.progress.position ≡ 10) × (duration left.progress 9 ≡ 3) × (eta left.progress 9 ≡ 0)
      × (told.progress.message ≡ codes "done") × (gone.progress.position ≡ 10) × (left_off.progress.position ≡ 5)

  -- a reset goes back to position 0 and leaves what the position's limiter has in hand
  abbrev pub Resets : Type 0
  Resets =
      let spent = after_all (plain_record None) (replicate 10 (Inc 1, 0)) in
      (asks_of spent ((Reset, 0) ∷ (Inc 1, 0) ∷ []) ≡ Unforced ∷ No ∷ []) × ((after_all spent ((Reset, 0) ∷ (Inc 1, 0) ∷ [])).progress.position ≡ 1)
