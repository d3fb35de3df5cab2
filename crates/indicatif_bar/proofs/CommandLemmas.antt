-- What every command of a bar keeps.
use Rattle.std.proofs.Common.{◌≡◌, ◌≢◌, ℕ, ◌+◌, ◌-◌, ◌%◌, ◌^◌, Bool, true, false, refl}
use Rattle.std.specs.Prelude.{IsTrue, if◌then◌else◌, nat_lt, unwrap_or}
use Rattle.std.specs.Option.{option_or}
use Rattle.indicatif_bar.specs.declared.ask.Ask.{Ask}
use Rattle.indicatif_bar.specs.declared.ask.Ask.TheVariants.{No, Unforced, Forced}
use Rattle.indicatif_bar.specs.Progress.{is_finished}
use Rattle.indicatif_bar.specs.PositionLimiters.{allow_position}
use Rattle.indicatif_bar.specs.Trackers.{Tracking}
use Rattle.indicatif_bar.specs.Finishes.{BarFinish, AndLeave, WithMessage as LeaveWithMessage, AndClear, Abandon, AbandonWithMessage}
use Rattle.indicatif_bar.specs.Commands.{BarRecord, Command, obeyed, tick, ticker_tick, moved_to, finish, asks_draw, with_progress, Tick, SetTicker, Inc, Dec, SetPosition, Update, SetStyle, WithPosition, WithMessage, WithPrefix, WithFinish, WithTabWidth, SetTabWidth, SetElapsed, ResetEta, ResetElapsed, Finish, FinishUsingStyle, ForceDraw}
use Rattle.indicatif_bar.specs.ProgressLaws.{TabsAgree, FinishedDrawsAreForced}

-- ---- tabs

-- a tab is as wide in the style as in the texts
abbrev Agrees : {K : Type 0} → BarRecord K × Ask → Type 0
Agrees outcome = outcome.0.style.tab ≡ outcome.0.progress.tab

either_agrees : {K : Type 0} (b : Bool) (x y : BarRecord K × Ask) → Agrees x → Agrees y → Agrees (if b then x else y)
either_agrees true x y p q = p
either_agrees false x y p q = q

tick_agrees : {K : Type 0} (m : Tracking K) (bar : BarRecord K) (now : ℕ) → bar.style.tab ≡ bar.progress.tab → Agrees (tick m bar now)
tick_agrees m bar now e = either_agrees bar.ticker _ _ e e

moved_agrees : {K : Type 0} (m : Tracking K) (position : ℕ) (bar : BarRecord K) (now : ℕ) → bar.style.tab ≡ bar.progress.tab → Agrees (moved_to m position bar now)
moved_agrees m position bar now e = either_agrees (allow_position bar.limiter now).0 _ _ (tick_agrees m _ now e) e

finish_agrees : {K : Type 0} (by : BarFinish) (bar : BarRecord K) (now : ℕ) → bar.style.tab ≡ bar.progress.tab → Agrees (finish by bar now)
finish_agrees AndLeave bar now e = e
finish_agrees (LeaveWithMessage text) bar now e = e
finish_agrees AndClear bar now e = e
finish_agrees Abandon bar now e = e
finish_agrees (AbandonWithMessage text) bar now e = e

elapsed_agrees : {K : Type 0} (b : Bool) (x y : BarRecord K) → x.style.tab ≡ x.progress.tab → y.style.tab ≡ y.progress.tab →
    (if b then x else y).style.tab ≡ (if b then x else y).progress.tab
elapsed_agrees true x y p q = p
elapsed_agrees false x y p q = q

after_agrees : {K : Type 0} (m : Tracking K) (bar : BarRecord K) (command : Command K) (now : ℕ) → bar.style.tab ≡ bar.progress.tab → Agrees (obeyed m command bar now)
after_agrees m bar Tick now e = tick_agrees m bar now e
after_agrees m bar (Inc n) now e = moved_agrees m _ bar now e
after_agrees m bar (Dec n) now e = moved_agrees m _ bar now e
after_agrees m bar (SetPosition position) now e = moved_agrees m _ bar now e
after_agrees m bar (Update position len) now e = tick_agrees m _ now e
after_agrees m bar (SetStyle style) now e = refl
after_agrees m bar (WithTabWidth tab) now e = refl
after_agrees m bar (SetTabWidth tab) now e = refl
after_agrees m bar (SetElapsed nanos) now e = elapsed_agrees (nat_lt now nanos) _ _ e e
after_agrees m bar (Finish by) now e = finish_agrees by bar now e
after_agrees m bar FinishUsingStyle now e = finish_agrees bar.on_finish bar now e
after_agrees m bar _ now e = e

pub tabs_agree : {K : Type 0} → TabsAgree K
tabs_agree m style len bar command now = (refl, after_agrees m bar command now)

-- ---- draws

-- an unforced draw is asked only of a bar that isn't finished
abbrev IsForced : {K : Type 0} → BarRecord K × Ask → Type 0
IsForced outcome = IsTrue (is_finished outcome.0.progress) → outcome.1 ≢ Unforced

draw_is_forced : (b : Bool) → IsTrue b → (if b then Forced else Unforced) ≢ Unforced
draw_is_forced true h e = absurd (cc e)
draw_is_forced false h e = absurd (cc h)

either_is_forced : {K : Type 0} (b : Bool) (x y : BarRecord K × Ask) → IsForced x → IsForced y → IsForced (if b then x else y)
either_is_forced true x y p q = p
either_is_forced false x y p q = q

asked_is_forced : {K : Type 0} (bar : BarRecord K) → IsForced (asks_draw bar)
asked_is_forced bar = draw_is_forced (is_finished bar.progress)

none_is_forced : {K : Type 0} (bar : BarRecord K) → IsForced (bar, No)
none_is_forced bar h e = absurd (cc e)

force_is_forced : {K : Type 0} (bar : BarRecord K) → IsForced (bar, Forced)
force_is_forced bar h e = absurd (cc e)

tick_is_forced : {K : Type 0} (m : Tracking K) (bar : BarRecord K) (now : ℕ) → IsForced (tick m bar now)
tick_is_forced m bar now = either_is_forced bar.ticker (bar, No) (ticker_tick m bar now) (none_is_forced bar) (asked_is_forced (ticker_tick m bar now).0)

moved_is_forced : {K : Type 0} (m : Tracking K) (position : ℕ) (bar : BarRecord K) (now : ℕ) → IsForced (moved_to m position bar now)
moved_is_forced m position bar now =
    let asked = allow_position bar.limiter now in
    let next = record bar { progress = record bar.progress { position = position }; limiter = asked.1 } in
    either_is_forced asked.0 (tick m next now) (next, No) (tick_is_forced m next now) (none_is_forced next)

pub finished_draws_are_forced : {K : Type 0} → FinishedDrawsAreForced K
finished_draws_are_forced m bar Tick now = tick_is_forced m bar now
finished_draws_are_forced m bar (SetTicker installed) now = none_is_forced (obeyed m (SetTicker installed) bar now).0
finished_draws_are_forced m bar (Inc n) now = moved_is_forced m ((bar.progress.position + n) % 2 ^ 64) bar now
finished_draws_are_forced m bar (Dec n) now = moved_is_forced m ((bar.progress.position + 2 ^ 64 - n) % 2 ^ 64) bar now
finished_draws_are_forced m bar (SetPosition position) now = moved_is_forced m position bar now
finished_draws_are_forced m bar (Update position len) now =
    tick_is_forced m (with_progress bar (record bar.progress { position = unwrap_or position bar.progress.position; len = option_or len bar.progress.len })) now
finished_draws_are_forced m bar (SetStyle style) now = none_is_forced (obeyed m (SetStyle style) bar now).0
finished_draws_are_forced m bar (WithPosition position) now = none_is_forced (obeyed m (WithPosition position) bar now).0
finished_draws_are_forced m bar (WithMessage text) now = none_is_forced (obeyed m (WithMessage text) bar now).0
finished_draws_are_forced m bar (WithPrefix text) now = none_is_forced (obeyed m (WithPrefix text) bar now).0
finished_draws_are_forced m bar (WithFinish by) now = none_is_forced (obeyed m (WithFinish by) bar now).0
finished_draws_are_forced m bar (WithTabWidth tab) now = none_is_forced (obeyed m (WithTabWidth tab) bar now).0
finished_draws_are_forced m bar (SetTabWidth tab) now = force_is_forced (obeyed m (SetTabWidth tab) bar now).0
finished_draws_are_forced m bar (SetElapsed nanos) now = none_is_forced (obeyed m (SetElapsed nanos) bar now).0
finished_draws_are_forced m bar ResetEta now = none_is_forced (obeyed m ResetEta bar now).0
finished_draws_are_forced m bar ResetElapsed now = none_is_forced (obeyed m ResetElapsed bar now).0
finished_draws_are_forced m bar (Finish by) now = force_is_forced (obeyed m (Finish by) bar now).0
finished_draws_are_forced m bar FinishUsingStyle now = force_is_forced (obeyed m FinishUsingStyle bar now).0
finished_draws_are_forced m bar ForceDraw now = force_is_forced (obeyed m ForceDraw bar now).0
finished_draws_are_forced m bar command now = asked_is_forced (obeyed m command bar now).0
