-- Runs whose texts are plain: of characters with a width and colour sequences. Texts are lists of bytes in UTF-8.
use Rattle.std.specs.Prelude.{ℕ, List, All, Option, Result, encode_utf8_all}
use Rattle.indicatif_text.specs.declared.refusal.Refusal.{Refusal}
use Rattle.indicatif_text.specs.declared.refusal.Drawn.{Drawn}
use Rattle.indicatif_text.specs.Template.{TemplatePart, LiteralText}
use Rattle.indicatif_term.specs.Calls.{TermView}
use Rattle.indicatif_term.specs.Lines.{logged_lines}
use Rattle.indicatif_bar.specs.Tabs.{expanded}
use Rattle.indicatif_bar.specs.Progress.{Progress}
use Rattle.indicatif_bar.specs.Trackers.{Tracking, TrackerStep, tracker_after, telling}
use Rattle.indicatif_bar.specs.Styles.{BarStyle}
use Rattle.indicatif_bar.specs.StyleLaws.{IsPlainText, AreTaken}
use Rattle.indicatif_bar.specs.Finishes.{BarFinish, WithMessage as LeaveWithMessage, AbandonWithMessage}
use Rattle.indicatif_bar.specs.Commands.{BarRecord, Command, SetMessage, SetPrefix, SetStyle, WithMessage, WithPrefix, WithFinish, Finish}
use Rattle.indicatif_bar.specs.Runs.{Runs, AllPlain}
use Rattle.indicatif_bar.specs.Lone.{LoneState, LoneCall, Obey, Log, Clear}
use Rattle.indicatif_bar.specs.LoneBars.{lone_bar}

-- a text is plain with its tabs as spaces, whatever the tab width
abbrev pub IsPlainWithTabs : List ℕ → Type 0
IsPlainWithTabs text = (tab : ℕ) → IsPlainText (expanded tab text)

-- each text of a tracker is plain, whatever ticks and resets come first
abbrev pub IsPlainTracker : {K : Type 0} → Tracking K → K → Type 0
IsPlainTracker m k = (steps : List TrackerStep) (p : Progress) (now : ℕ) → IsPlainWithTabs (m.text (tracker_after m k steps) p now)

-- the texts of a style's trackers are plain
abbrev pub ArePlainTrackers : {K : Type 0} → Tracking K → List (List ℕ × K) → Type 0
ArePlainTrackers m keys = All (λ entry. IsPlainTracker m entry.1) keys

-- a tracker that never changes has plain texts if the texts that it returns are plain
abbrev pub TellersArePlain : Type 0 → Type 0
TellersArePlain K = (text : K → Progress → ℕ → List ℕ) (k : K) → ((p : Progress) (now : ℕ) → IsPlainWithTabs (text k p now)) → IsPlainTracker (telling text) k

-- a literal of a template is plain
abbrev pub HasPlainLiteral : TemplatePart → Type 0
HasPlainLiteral (LiteralText text) = IsPlainWithTabs (encode_utf8_all text)
HasPlainLiteral _ = Unit {0}

-- the texts of a style are plain: literals, spinner and trackers; and a style takes its clusters
pub record IsPlainStyle {K : Type 0} (m : Tracking K) (style : BarStyle K) : Type 0 where
  pub literals : All HasPlainLiteral style.parts
  pub ticks : All IsPlainText style.tick_strings
  pub trackers : ArePlainTrackers m style.keys
  pub clusters : AreTaken style.clusters

-- the message of a finish is plain
abbrev pub IsPlainFinish : BarFinish → Type 0
IsPlainFinish (LeaveWithMessage text) = IsPlainWithTabs text
IsPlainFinish (AbandonWithMessage text) = IsPlainWithTabs text
IsPlainFinish _ = Unit {0}

module _ {K : Type 0} (m : Tracking K) where
  -- the texts of a bar are plain
  pub record IsPlainBar (bar : BarRecord K) : Type 0 where
    pub style : IsPlainStyle m bar.style
    pub message : IsPlainWithTabs bar.progress.message
    pub prefix : IsPlainWithTabs bar.progress.prefix
    pub on_finish : IsPlainFinish bar.on_finish

  -- the texts that a command gives a bar are plain
  abbrev pub IsPlainCommand : Command K → Type 0
  IsPlainCommand (SetMessage text) = IsPlainWithTabs text
  IsPlainCommand (SetPrefix text) = IsPlainWithTabs text
  IsPlainCommand (SetStyle style) = IsPlainStyle m style
  IsPlainCommand (WithMessage text) = IsPlainWithTabs text
  IsPlainCommand (WithPrefix text) = IsPlainWithTabs text
  IsPlainCommand (WithFinish by) = IsPlainFinish by
  IsPlainCommand (Finish by) = IsPlainFinish by
  IsPlainCommand _ = Unit {0}

  -- the texts of a lone bar's call are plain
  abbrev pub IsPlainLoneCall : LoneCall (Command K) → Type 0
  IsPlainLoneCall (Obey command) = IsPlainCommand command
  IsPlainLoneCall (Log text) = All IsPlainText (logged_lines text)
  IsPlainLoneCall Clear = Unit {0}

-- if all these texts are plain, so is every run, and the headline holds of it; the bar's texts are plain at its end too, so the next run can be plain as well
abbrev pub LoneRunsArePlain : {K : Type 0} → Tracking K → Type 0
LoneRunsArePlain {K} m =
    (calls : List (LoneCall (Command K) × ℕ)) (answers : List (Result Drawn Refusal)) (old : Option TermView) (s : LoneState (BarRecord K)) (new : Option TermView) (next : LoneState (BarRecord K))
    (run : Runs (lone_bar m) calls answers old s new next) →
    IsPlainBar m s.bar → All (λ call. IsPlainLoneCall m call.0) calls → AllPlain (lone_bar m) calls answers old s new next run × IsPlainBar m next.bar
