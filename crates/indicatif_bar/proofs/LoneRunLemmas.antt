-- Runs of a lone bar: its rows are forgotten only where the terminal failed, so else they are read; and what becomes of its record.
use Rattle.std.proofs.Common.{◌≡◌, ℕ, Bool, true, false, List, [], ◌∷◌, ◌++◌, refl, sym, ◌∙◌, ap, subst, Result, Err, Option, Some, None, inl, inr}
use Rattle.std.specs.Prelude.{◌≢◌, ◌||◌, IsFalse}
use Rattle.std.specs.List.{AllByRecursion, list_any}
use Rattle.std.proofs.lemmas.Bool.{cases_Bool, false≢true}
use Rattle.std.proofs.Math.Bool.{or-false}
use Rattle.indicatif_text.specs.declared.refusal.Refusal.{Refusal}
use Rattle.indicatif_text.specs.declared.refusal.Refusal.TheVariants.{Memory}
use Rattle.indicatif_text.specs.declared.refusal.Drawn.{Drawn}
use Rattle.indicatif_term.specs.Calls.{TermView}
use Rattle.indicatif_term.specs.Lists.{Lists, BarLines, drawn, logged, cleared}
use Rattle.indicatif_term.specs.Lines.{text_lines, logged_lines}
use Rattle.indicatif_bar.specs.Machines.{Target, Draws}
use Rattle.indicatif_bar.specs.Runs.{ReadsAfter}
use Rattle.indicatif_bar.specs.Kinds.{Kind, Writing, Frame, TextAndFrame, NoFrame, written_lists}
use Rattle.indicatif_bar.specs.Trackers.{Tracking}
use Rattle.indicatif_bar.specs.Bars.{bar_kind}
use Rattle.indicatif_bar.specs.Commands.{BarRecord, Command, SetElapsed, obeyed, is_beyond_clock}
use Rattle.indicatif_bar.specs.LoneBars.{CallDone, RecordGoes, RecordsGo, record_of}
use Rattle.indicatif_bar.specs.declared.ask.Ask.{Ask}
use Rattle.indicatif_bar.specs.declared.ask.Ask.TheVariants.{Forced}
use Rattle.indicatif_bar.specs.declared.lone.LoneBar.{LoneBar}
use Rattle.indicatif_bar.specs.Lone.{LoneState, LoneCall, Obey, Log, Clear, bar_after, bar_after_all, lone_frame, draw_asked, draw_of_call, refused_at_once, deed_unless, lone}
use Rattle.indicatif_bar.proofs.SoundRunLemmas.{GoesSoundly, sound_read_after}

pub written_soundly : (writing : Writing) (target : Target) (bottom : Bool) (leave : ℕ) (frame : List BarLines) (l : Lists) → (written_lists writing target bottom leave frame l).failed ≡ false
unfolding drawn logged cleared
written_soundly Frame target bottom leave frame l = refl
written_soundly (TextAndFrame text) target bottom leave frame l = refl
written_soundly NoFrame target bottom leave frame l = refl

module _ {B C : Type 0} (kind : Kind B C) where
  drawn_soundly : (target : Target) (takes : Bool) (ask : Ask) (now : ℕ) (writing : Writing) (s : LoneState B) (bar : B) →
      GoesSoundly (lone kind) s (Draws (draw_asked kind target takes ask now writing (record s { bar = bar })) (λ x. x) (λ x. x))
  drawn_soundly target takes ask now writing s bar = (
    record { numbers = λ sound. sound; ready = λ sound. sound; written = λ sound. written_soundly writing target false 0 (lone_frame kind target now bar) s.lists },
    (λ x sound. sound),
    λ x sound. sound,
  )

  deed_soundly : (refused : Option Refusal) (target : Target) (call : LoneCall C) (now : ℕ) (s : LoneState B) →
      GoesSoundly (lone kind) s (deed_unless kind refused (draw_of_call kind target call now s) s)
  deed_soundly (Some e) target call now s = λ sound. sound
  deed_soundly None target (Obey command) now s =
      let told = kind.after command s.bar now in drawn_soundly target (kind.takes command s.bar now) told.1 now Frame s told.0
  deed_soundly None target (Log text) now s = drawn_soundly target false Forced now (TextAndFrame (text_lines (logged_lines text))) s s.bar
  deed_soundly None target Clear now s = drawn_soundly target false Forced now NoFrame s s.bar

  pub lone_goes : (target : Target) (call : LoneCall C) (now : ℕ) (s : LoneState B) → GoesSoundly (lone kind) s ((lone kind).deed target call now s)
  lone_goes target call now s = deed_soundly (refused_at_once kind call now s.bar) target call now s

  pub lone_read_after : (calls : List (LoneCall C × ℕ)) (answers : List (Result Drawn Refusal)) (v : TermView) (s : LoneState B) (new : Option TermView) (next : LoneState B) →
      IsFalse s.lists.failed → ReadsAfter (lone kind) calls answers v s new next
  lone_read_after = sound_read_after (lone kind) lone_goes

-- ---- what becomes of a record

-- a call of a lone bar makes this of its record
pub goes_by : {K T : Type 0} (m : Tracking K) (old new : LoneBar K T) (call : LoneCall (Command K)) (now : ℕ) (answer : Result Drawn Refusal) → CallDone m old new call now answer →
    RecordGoes m call now answer (record_of old) (record_of new)
goes_by m old new (Obey command) now answer (inl done) = inl done
goes_by m old new (Obey command) now answer (inr refused) = inr (refused.0, refused.1, refused.2, ap record_of refused.3)
goes_by m old new (Log text) now answer done = done
goes_by m old new Clear now answer done = done

module _ {K : Type 0} (m : Tracking K) where
  -- one call more at the end
  pub goes-push : (calls : List (LoneCall (Command K) × ℕ)) (answers : List (Result Drawn Refusal)) (bar x bar' : BarRecord K) (call : LoneCall (Command K) × ℕ) (answer : Result Drawn Refusal) →
      RecordsGo m calls answers bar x → RecordGoes m call.0 call.1 answer x bar' → RecordsGo m (calls ++ call ∷ []) (answers ++ answer ∷ []) bar bar'
  goes-push [] [] bar x bar' call answer went goes = (bar', subst (λ y. RecordGoes m call.0 call.1 answer y bar') went goes, refl)
  goes-push (c ∷ calls) (a ∷ answers) bar x bar' call answer went goes = (went.0, went.1, goes-push calls answers went.0 x bar' call answer went.2 goes)
  goes-push [] (a ∷ answers) bar x bar' call answer went goes = absurd went
  goes-push (c ∷ calls) [] bar x bar' call answer went goes = absurd went

  -- a command that the clock refuses makes nothing of it
  late_stays : (command : Command K) (bar : BarRecord K) (now : ℕ) → is_beyond_clock command now ≡ true → (obeyed m command bar now).0 ≡ bar
  late_stays (SetElapsed nanos) bar now late = rw late refl
  late_stays _ bar now late = absurd (false≢true late)

  goes_as_told : (call : LoneCall (Command K)) (now : ℕ) (answer : Result Drawn Refusal) (bar bar' : BarRecord K) → answer ≢ Err Memory → RecordGoes m call now answer bar bar' →
      bar' ≡ bar_after (bar_kind m) call now bar
  goes_as_told (Obey command) now answer bar bar' ample (inl done) = done
  goes_as_told (Obey command) now answer bar bar' ample (inr (e, said, inl short, stays)) = absurd (ample (said ∙ ap Err short.0))
  goes_as_told (Obey command) now answer bar bar' ample (inr (e, said, inr late, stays)) = stays ∙ sym (late_stays command bar now late.1)
  goes_as_told (Log text) now answer bar bar' ample stays = stays
  goes_as_told Clear now answer bar bar' ample stays = stays

  -- where no call found too little memory, a record goes as the commands say
  pub go_as_told : (calls : List (LoneCall (Command K) × ℕ)) (answers : List (Result Drawn Refusal)) (bar bar' : BarRecord K) → AllByRecursion (λ answer. answer ≢ Err Memory) answers →
      RecordsGo m calls answers bar bar' → bar' ≡ bar_after_all (bar_kind m) calls bar
  go_as_told [] [] bar bar' ample went = went
  go_as_told (call ∷ calls) (answer ∷ answers) bar bar' ample went =
      go_as_told calls answers went.0 bar' ample.1 went.2 ∙ ap (bar_after_all (bar_kind m) calls) (goes_as_told call.0 call.1 answer bar went.0 ample.0 went.1)
  go_as_told [] (answer ∷ answers) bar bar' ample went = absurd went
  go_as_told (call ∷ calls) [] bar bar' ample went = absurd went

-- ---- what was written

pub any-push : {X : Type 0} (p : X → Bool) (xs : List X) (x : X) → list_any p (xs ++ x ∷ []) ≡ (list_any p xs || p x)
any-push p [] x = or-false (p x)
any-push p (y ∷ xs) x = elim (cases_Bool (p y)) [ inl has ↦ rw has refl | inr lacks ↦ rw lacks (any-push p xs x) ]
