-- A lone bar with its own clock: where it stands, and what a move makes of it.
use Rattle.std.specs.Prelude.{◌≡◌, ℕ, List, map, Option, None, Result, Ok, Err, codes, IsFalse}
use Rattle.indicatif_text.specs.declared.refusal.Drawn.{Drawn}
use Rattle.indicatif_text.specs.declared.refusal.Refusal.{Refusal}
use Rattle.indicatif_text.specs.Template.{TemplatePart, Parses}
use Rattle.indicatif_term.specs.Calls.{TermView}
use Rattle.indicatif_term.specs.Limiters.{Limiter}
use Rattle.indicatif_term.specs.Target.{term_of, limiter_of}
use Rattle.indicatif_bar.specs.Progress.{is_finished}
use Rattle.indicatif_bar.specs.Finishes.{BarFinish, AndLeave, WithMessage, AndClear, Abandon, AbandonWithMessage}
use Rattle.indicatif_bar.specs.Trackers.{Tracking}
use Rattle.indicatif_bar.specs.Builders.{first_style}
use Rattle.indicatif_bar.specs.Commands.{BarRecord, Command, Inc, SetPosition, FinishUsingStyle, new_bar, is_beyond_clock}
use Rattle.indicatif_bar.specs.Runs.{Runs, Headline}
use Rattle.indicatif_bar.specs.Lone.{LoneState, LoneCall, Obey, opening_state}
use Rattle.indicatif_bar.specs.LoneBars.{record_of, lone_terminal, lone_known, lone_bar, LoneIsIn, Obeys, ObeysOrNot, RefusesCommand}
use Rattle.indicatif_bar.specs.declared.lone.LoneBar.{LoneBar}
use Rattle.indicatif.specs.Moves.{Standing, Move, Advance, Place, Finish}
use Rattle.indicatif.specs.Wrap.{inner_of, wrapped_seeks, last_draw_of}
use Rattle.indicatif.specs.declared.wrappers.owned.OwnedBar.{OwnedBar}
use Rattle.indicatif.specs.declared.wrappers.wrap.ProgressBarIter.{ProgressBarIter}

-- the position that a finish sets, if it sets one: the length
abbrev pub end_place : BarFinish → Option ℕ → Option ℕ
end_place AndLeave len = len
end_place (WithMessage text) len = len
end_place AndClear len = len
end_place Abandon len = None
end_place (AbandonWithMessage text) len = None

-- where a bar stands, by its record
abbrev pub standing_of : {K : Type 0} → BarRecord K → Standing
standing_of bar = record {
  position = bar.progress.position;
  finished = is_finished bar.progress;
  ends_at = end_place bar.on_finish bar.progress.len;
}

-- the bar without its clock
abbrev pub lone_of : {K T C : Type 0} → OwnedBar K T C → LoneBar K T
lone_of owned = owned.bar

-- the command that a move is
abbrev pub command_of_move : {K : Type 0} → Move → Command K
command_of_move (Advance n) = Inc n
command_of_move (Place place) = SetPosition place
command_of_move Finish = FinishUsingStyle

-- a move is the bar's command at some moment
abbrev pub Commanded : {K T C : Type 0} → Tracking K → (T → TermView) → OwnedBar K T C → Move → Result Drawn Refusal → OwnedBar K T C → Type 0
Commanded m view old (Advance n) answer new = (now : ℕ) × Obeys m view (lone_of old) (lone_of new) (Inc n) now answer
Commanded m view old (Place place) answer new = (now : ℕ) × Obeys m view (lone_of old) (lone_of new) (SetPosition place) now answer
Commanded m view old Finish answer new = (now : ℕ) × ObeysOrNot m view (lone_of old) (lone_of new) FinishUsingStyle now answer

-- whatever state the bar was in, these moves with their answers are a run of its commands, each at some moment; so the headline holds of them
abbrev pub IsRunOfMoves : {K T C : Type 0} → Tracking K → (T → TermView) → List (Move × Result Drawn Refusal) → OwnedBar K T C → OwnedBar K T C → Type 0
IsRunOfMoves {K} m view made old new =
    (s : LoneState (BarRecord K)) → LoneIsIn (lone_of old) s →
    let answers = map (λ x. x.1) made in let before = lone_known view (lone_of old) in let now = lone_known view (lone_of new) in
    (calls : List (LoneCall (Command K) × ℕ)) × (map (λ call. call.0) calls ≡ map (λ x. Obey (command_of_move x.0)) made)
    × (next : LoneState (BarRecord K)) × LoneIsIn (lone_of new) next
    × (run : Runs (lone_bar m) calls answers before s now next) × Headline (lone_bar m) calls answers before s now next run

-- a bar as it begins: with this record, on this target, nothing drawn yet
abbrev pub Begins : {K T C : Type 0} → OwnedBar K T C → BarRecord K → Option (T × Option Limiter) → Type 0
Begins owned bar target =
    (record_of (lone_of owned) ≡ bar) × (lone_terminal (lone_of owned) ≡ term_of target) × LoneIsIn (lone_of owned) (opening_state bar (limiter_of target))

-- a bar as it begins, in the default style, with these tick characters
abbrev pub BeginsPlain : {K T C : Type 0} → OwnedBar K T C → List ℕ → Option ℕ → Option (T × Option Limiter) → Type 0
BeginsPlain owned ticks len target =
    (parts : List TemplatePart) × Parses (codes "{wide_bar} {pos}/{len}") parts
    × ((now : ℕ) × Begins owned (new_bar (first_style ticks parts) len now) target)

-- ---- wrappers over such a bar

module _ {I K T C : Type 0} (m : Tracking K) (view : T → TermView) where
  -- its bar obeyed a command, at some moment and with some answer; all else is unchanged
  pub record Built (old : ProgressBarIter I (OwnedBar K T C)) (command : Command K) (new : ProgressBarIter I (OwnedBar K T C)) : Type 0 where
    pub it : inner_of new ≡ inner_of old
    pub seeks : wrapped_seeks new ≡ wrapped_seeks old
    pub last : last_draw_of new ≡ last_draw_of old
    pub moment : ℕ
    pub answer : Result Drawn Refusal
    pub obeys : Obeys m view (lone_of old.progress) (lone_of new.progress) command moment answer

  -- its bar obeyed a command, at some moment that is no earlier than the command needs; or it refused the command for want of memory, or because its elapsed time exceeds that moment, and the wrapper
  -- was dropped with its bar
  abbrev pub MayBuild : ProgressBarIter I (OwnedBar K T C) → Command K → Result (ProgressBarIter I (OwnedBar K T C)) Refusal → Type 0
  MayBuild old command (Ok new) = (built : Built old command new) × IsFalse (is_beyond_clock command built.moment)
  MayBuild old command (Err e) = (now : ℕ) × RefusesCommand command (record_of (lone_of old.progress)) now e
