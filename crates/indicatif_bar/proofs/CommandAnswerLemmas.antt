-- What a command of a bar's record answers, as a lone bar takes it.
use Rattle.std.proofs.Common.{◌≡◌, ℕ, suc, ◌<◌, false, ap, Result, Ok, Err, inl, inr, nat_lt}
use Rattle.std.specs.Prelude.{IfOk, OnErr, IfErr, MatchResult, IsTrue, IsFalse, ◌↔◌, ◌⊎◌}
use Rattle.std.proofs.lemmas.Bool.{leb-true, le-leb, cases_Bool}
use Rattle.indicatif_text.specs.declared.refusal.Refusal.{Refusal}
use Rattle.indicatif_text.specs.declared.refusal.Refusal.TheVariants.{Memory, ElapsedBeyondClock}
use Rattle.indicatif_bar.specs.Trackers.{Tracking}
use Rattle.indicatif_bar.specs.Commands.{BarRecord, Command, SetElapsed, obeyed, is_beyond_clock, takes_memory}
use Rattle.indicatif_bar.specs.LoneBars.{RefusesCommand}
use Rattle.indicatif_bar.specs.declared.ask.Ask.{Ask}

module _ {K : Type 0} (m : Tracking K) (old new : BarRecord K) (now : ℕ) where
  -- the record obeyed and asks so, or refused
  abbrev pub ObeyedOrNot : Command K → Result Ask Refusal → Type 0
  ObeyedOrNot command r = MatchResult r (λ ask. ((new, ask) ≡ obeyed m command old now) × IsFalse (is_beyond_clock command now)) (λ e. RefusesCommand command old now e × (new ≡ old))

  pub told_with_memory : (command : Command K) (r : Result Ask Refusal) → is_beyond_clock command now ≡ false → IfOk r (λ ask. (new, ask) ≡ obeyed m command old now) → OnErr r (new ≡ old) →
      IfErr r (λ e. (e ≡ Memory) × IsTrue (takes_memory command old)) → ObeyedOrNot command r
  told_with_memory command (Ok ask) in_time done same memory = (done, in_time)
  told_with_memory command (Err e) in_time done same memory = (inl memory, same)

  pub told_elapsed : (nanos : ℕ) (r : Result Ask Refusal) → IfOk r (λ ask. (new, ask) ≡ obeyed m (SetElapsed nanos) old now) → OnErr r (new ≡ old) →
      (r ≡ Err ElapsedBeyondClock) ↔ (now < nanos) → IfErr r (λ e. e ≡ ElapsedBeyondClock) → ObeyedOrNot (SetElapsed nanos) r
  told_elapsed nanos (Ok ask) done same beyond late = (done, in_time)
    where
      in_time : nat_lt now nanos ≡ false
      in_time = elim (cases_Bool (nat_lt now nanos)) [ inl t ↦ absurd (let e = beyond.1 (leb-true (suc now) nanos t) in cc) | inr f ↦ f ]
  told_elapsed nanos (Err e) done same beyond late = (inr (late, le-leb (suc now) nanos (beyond.0 (ap Err late))), same)

  pub told_as_value : (command : Command K) (r : Result Ask Refusal) → IfOk r (λ ask. (new, ask) ≡ obeyed m command old now) → OnErr r (new ≡ old) →
      (r ≡ Err ElapsedBeyondClock) ↔ IsTrue (is_beyond_clock command now) → (r ≡ Err Memory → IsTrue (takes_memory command old)) → IfErr r
      (λ e. (e ≡ ElapsedBeyondClock) ⊎ (e ≡ Memory)) → ObeyedOrNot command r
  told_as_value command (Ok ask) done same beyond memory other = (done, elim (cases_Bool (is_beyond_clock command now)) [ inl t ↦ absurd (let e = beyond.1 t in cc) | inr f ↦ f ])
  told_as_value command (Err e) done same beyond memory (inl late) = (inr (late, beyond.0 (ap Err late)), same)
  told_as_value command (Err e) done same beyond memory (inr short) = (inl (short, memory (ap Err short)), same)
