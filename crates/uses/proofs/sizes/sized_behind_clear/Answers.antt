use Rattle.std.proofs.Common.{◌≡◌, ◌∙◌, ℕ, Bool, false, ap, sym, subst, inl, inr, Option, Some, None, Result, Ok, Err}
use Rattle.std.specs.Prelude.{◌==◌, IsTrue}
use Rattle.std.proofs.lemmas.Bool.{cond_both, false≢true}
use Rattle.std.proofs.lemmas.Result.{err_from_is_err_and}
use Rattle.indicatif_text.specs.declared.refusal.Refusal.{Refusal}
use Rattle.indicatif_text.specs.declared.refusal.Refusal.TheVariants.{Memory, NoColumns}
use Rattle.indicatif_text.specs.declared.refusal.Drawn.{Drawn}
use Rattle.indicatif_text.specs.declared.refusal.Drawn.TheVariants.{Yes}
use Rattle.indicatif_term.specs.Calls.{TermView}
use Rattle.indicatif_term.specs.Lists.{Lists, cleared}
use Rattle.indicatif_term.specs.Resizes.{SizeTakes}
use Rattle.indicatif_bar.specs.Bars.{bar_kind}
use Rattle.indicatif_bar.specs.Commands.{BarRecord}
use Rattle.indicatif_bar.specs.Lone.{LoneState, Clear, draw_of_call}
use Rattle.indicatif_bar.specs.LoneBars.{lone_bar}
use Rattle.indicatif_bar.specs.Machines.{Leads, target_of, drawn_by}
use Rattle.indicatif_bar.specs.Runs.{CallMade}
use Rattle.indicatif_bar.specs.Scripts.{IsAnotherSize}
use Rattle.indicatif_bar.specs.Trackers.{Tracking}
use Rattle.uses.proofs.ExactLemmas.{cleared_ample}
use Rattle.uses.proofs.sizes.sized_behind_clear.Goals as goal

module _ {K : Type 0} (m : Tracking K) (now : ℕ) (s next : LoneState (BarRecord K)) (drawn : Drawn) where
  -- a clear that was answered well leaves lists that are cleared
  cleared_lists : (v : TermView) → Leads (lone_bar m) (target_of (Some v)) s ((lone_bar m).deed (target_of (Some v)) Clear now s) (Ok drawn) next → next.lists ≡ cleared s.lists
  unfolding drawn_by
  cleared_lists v (inl made) =
      let d = draw_of_call (bar_kind m) (target_of (Some v)) Clear now s in
      let P = λ (o : Result Drawn Refusal × LoneState (BarRecord K)). (Ok drawn, next) ≡ o → next.lists ≡ cleared s.lists in
      cond_both (v.columns == 0) (Err NoColumns, d.after_command) (Ok Yes, d.written) P (λ b. λ e. absurd (let q = ap (λ o. o.0) e in cc)) (λ b. λ e. ap (λ o. o.1.lists) e) made
  cleared_lists v (inr (inl short)) = absurd (let q = short.0 in cc q)
  cleared_lists v (inr (inr broken)) = absurd (let q = broken.1 in cc q)

  -- so that a size behind it takes no memory
  ample_behind : (old new : Option TermView) (cols rows : ℕ) → ((own : Bool) (l : Lists) → SizeTakes own (cleared l) → IsTrue own) → CallMade (lone_bar m) old new (Clear, now) s (Ok drawn) next →
      IsAnotherSize cols rows new → SizeTakes false next.lists → ⊥
  ample_behind None new cols rows law made other takes = subst (IsAnotherSize cols rows) made.writes other
  ample_behind (Some v) new cols rows law made other takes = false≢true (law false s.lists (subst (SizeTakes false) (cleared_lists v made.leads) takes))

pub returns : goal.returns
returns g c = λ short.
    let s = c.bar-in_some_state.ensures.some in
    let made = c.in_ok-clear.ensures.leads s.0 s.1 in
    ample_behind g.K.ProgressTracker.means c.args.now s.0 made.0 c.in_ok-clear.field-0 _ _ c.args.cols c.args.rows c.where_a_size_takes_none.ensures.cleared made.2 (c.resize.ensures.memory short)
    (c.resize.ensures.takes short made.0 made.1)

pub returns-in_err-clear : goal.returns-in_err-clear
returns-in_err-clear g c = λ short.
    let s = c.bar-in_some_state.ensures.some in
    let made = c.in_err-clear.ensures.leads s.0 s.1 in
    let answer = Err c.in_err-clear.field-0.0 in
    let x = err_from_is_err_and c.from_residual.result c.from_residual.ensures.1 in
    let same : c.in_err-clear.field-0.0 ≡ Memory = let q = sym (x.1 ∙ ap Err x.2) ∙ short in cc q in
    cleared_ample g.K.ProgressTracker.means c.args.now s.0 answer _ _ (c.what_a_lone_bar_answers.ensures _ _ (Clear, c.args.now) s.0 answer made.0 made.2) (ap Err same)
