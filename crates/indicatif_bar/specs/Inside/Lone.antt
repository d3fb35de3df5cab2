-- A lone bar whose record a command has changed, before it is drawn.
use Rattle.std.specs.Prelude.{◌≡◌, ℕ, IsFalse, Result, MatchResult}
use Rattle.indicatif_text.specs.declared.refusal.Refusal.{Refusal}
use Rattle.indicatif_bar.specs.Trackers.{Tracking}
use Rattle.indicatif_bar.specs.Commands.{Command, obeyed, is_beyond_clock}
use Rattle.indicatif_bar.specs.LoneBars.{RefusesCommand}
use Rattle.indicatif_bar.specs.declared.lone.LoneBar.{LoneBar}
use Rattle.indicatif_bar.specs.declared.ask.Ask.{Ask}

module _ {K T : Type 0} (m : Tracking K) (old mid : LoneBar K T) (command : Command K) (now : ℕ) where
  -- the bar has obeyed, and asks for this draw; nothing else has changed
  pub record IsTold (ask : Ask) : Type 0 where
    pub as_told : (mid.shown.bar, ask) ≡ obeyed m command old.shown.bar now
    pub in_time : IsFalse (is_beyond_clock command now)
    pub rest : mid ≡ record old { shown = record old.shown { bar = mid.shown.bar } }

  -- the bar has obeyed and asks for a draw, or it has refused
  pub record IsToldOrNot (asked : Result Ask Refusal) : Type 0 where
    pub as_told : MatchResult asked (λ ask. ((mid.shown.bar, ask) ≡ obeyed m command old.shown.bar now) × IsFalse (is_beyond_clock command now))
        (λ e. RefusesCommand command old.shown.bar now e × (mid.shown.bar ≡ old.shown.bar))
    pub rest : mid ≡ record old { shown = record old.shown { bar = mid.shown.bar } }
