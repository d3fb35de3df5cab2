-- A builder that may be refused either gives what it built, or nothing.
use Rattle.std.proofs.Common.{◌≡◌, ℕ, suc, ◌<◌, false, Result, Ok, Err, IfOk, IfErr, inl, inr, ⊎_elim, sym, ap, subst, nat_lt}
use Rattle.std.specs.Prelude.{IsTrue, IsFalse, ◌↔◌}
use Rattle.std.proofs.lemmas.Bool.{leb-true, le-leb, cases_Bool}
use Rattle.indicatif_text.specs.declared.refusal.Drawn.{Drawn}
use Rattle.indicatif_text.specs.declared.refusal.Refusal.{Refusal}
use Rattle.indicatif_text.specs.declared.refusal.Refusal.TheVariants.{Memory, ElapsedBeyondClock}
use Rattle.indicatif_term.specs.Calls.{TermView}
use Rattle.indicatif_bar.specs.Trackers.{Tracking}
use Rattle.indicatif_bar.specs.Commands.{Command, SetElapsed, is_beyond_clock, takes_memory}
use Rattle.indicatif_bar.specs.LoneBars.{record_of, Obeys, ObeysOrNot}
use Rattle.indicatif_bar.specs.declared.lone.LoneBar.{LoneBar}
use Rattle.indicatif.specs.declared.wrappers.owned.OwnedBar.{OwnedBar}
use Rattle.indicatif.specs.declared.wrappers.wrap.ProgressBarIter.{ProgressBarIter}
use Rattle.indicatif.specs.Wrap.{inner_of, wrapped_seeks, last_draw_of}
use Rattle.indicatif.specs.Owned.{lone_of, MayBuild}

module _ {K T : Type 0} (m : Tracking K) (view : T → TermView) where
  -- a bar that answered well has obeyed
  obeyed-well : (old new : LoneBar K T) (command : Command K) (now : ℕ) (drawn : Drawn) → ObeysOrNot m view old new command now (Ok drawn) → Obeys m view old new command now (Ok drawn)
  obeyed-well old new command now drawn obeys = record {
    bar = ⊎_elim (λ obeyed. obeyed) (λ disobeyed. cc (disobeyed.1)) obeys.bar;
    silent = obeys.silent;
    nowhere = obeys.nowhere;
    leads = obeys.leads;
    moves = obeys.moves;
  }

module _ {I K T C : Type 0} (m : Tracking K) (view : T → TermView) (old mid : ProgressBarIter I (OwnedBar K T C)) (now : ℕ)
    (it : inner_of mid ≡ inner_of old) (seeks : wrapped_seeks mid ≡ wrapped_seeks old) (last : last_draw_of mid ≡ last_draw_of old) where
  -- a wrapper whose bar answered this
  abbrev pub Answered : Command K → Result Drawn Refusal → Type 0
  Answered command answer = ObeysOrNot m view (lone_of old.progress) (lone_of mid.progress) command now answer

  -- what comes of it
  abbrev pub Gives : Result Drawn Refusal → Result (ProgressBarIter I (OwnedBar K T C)) Refusal → Type 0
  Gives answer result = IfOk answer (λ _. result ≡ Ok mid) × IfErr answer (λ e. result ≡ Err e)

  -- a bar that answered well, in time
  built : (command : Command K) (drawn : Drawn) → Answered command (Ok drawn) → IsFalse (is_beyond_clock command now) → MayBuild m view old command (Ok mid)
  built command drawn obeys in_time = (
    record {
      it = it;
      seeks = seeks;
      last = last;
      moment = now;
      answer = Ok drawn;
      obeys = obeyed-well m view (lone_of old.progress) (lone_of mid.progress) command now drawn obeys;
    },
    in_time,
  )

  -- by a command that takes memory
  pub may_build : (command : Command K) (answer : Result Drawn Refusal) (result : Result (ProgressBarIter I (OwnedBar K T C)) Refusal)
      → is_beyond_clock command now ≡ false → Answered command answer → IfErr answer (λ e. (e ≡ Memory) × IsTrue (takes_memory command (record_of (lone_of old.progress))))
      → Gives answer result → MayBuild m view old command result
  may_build command (Ok drawn) result in_time obeys memory gives = subst (λ r. MayBuild m view old command r) (sym gives.0) (built command drawn obeys in_time)
  may_build command (Err e) result in_time obeys memory gives = subst (λ r. MayBuild m view old command r) (sym gives.1) (now, inl memory)

  -- by nanoseconds since the start
  pub may_build_elapsed : (nanos : ℕ) (answer : Result Drawn Refusal) (result : Result (ProgressBarIter I (OwnedBar K T C)) Refusal)
      → Answered (SetElapsed nanos) answer → (answer ≡ Err ElapsedBeyondClock) ↔ (now < nanos) → IfErr answer (λ e. e ≡ ElapsedBeyondClock)
      → Gives answer result → MayBuild m view old (SetElapsed nanos) result
  may_build_elapsed nanos (Ok drawn) result obeys beyond late gives =
      subst (λ r. MayBuild m view old (SetElapsed nanos) r) (sym gives.0) (built (SetElapsed nanos) drawn obeys in_time)
    where
      in_time : nat_lt now nanos ≡ false
      in_time = elim (cases_Bool (nat_lt now nanos)) [ inl t ↦ absurd (let e = beyond.1 (leb-true (suc now) nanos t) in cc) | inr f ↦ f ]
  may_build_elapsed nanos (Err e) result obeys beyond late gives =
      subst (λ r. MayBuild m view old (SetElapsed nanos) r) (sym gives.1) (now, inr (late, le-leb (suc now) nanos (beyond.0 (ap Err late))))
