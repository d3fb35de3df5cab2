-- What one step makes of a bar's position; what a draw answers where there is nothing to draw on; and how often a terminal has
-- failed after a call.
use Rattle.std.proofs.Common.{◌≡◌, ℕ, ◌+◌, ◌%◌, ◌^◌, Bool, true, false, refl, sym, ◌∙◌, ap, subst, inl, inr, option_map, Option, Some, None, Result, Ok, Err, if◌then◌else◌}
use Rattle.std.specs.Prelude.{MatchOption}
use Rattle.std.proofs.lemmas.Bool.{false≢true}
use Rattle.indicatif_text.specs.declared.refusal.Refusal.{Refusal}
use Rattle.indicatif_text.specs.declared.refusal.Refusal.TheVariants.{NoColumns}
use Rattle.indicatif_text.specs.declared.refusal.Drawn.{Drawn}
use Rattle.indicatif_text.specs.declared.refusal.Drawn.TheVariants.{Hidden}
use Rattle.indicatif_term.specs.Calls.{TermView}
use Rattle.indicatif_term.specs.Engines.{is_failure}
use Rattle.indicatif_bar.specs.Machines.{Target, Leads, drawn_by}
use Rattle.indicatif_bar.specs.Runs.{CallMade, WritesLines, deed_on, lines_by}
use Rattle.indicatif_bar.specs.Lone.{LoneState, LoneCall, Obey}
use Rattle.indicatif_bar.specs.LoneBars.{lone_bar}
use Rattle.indicatif_bar.specs.declared.ask.Ask.{Ask}
use Rattle.indicatif_bar.specs.declared.ask.Ask.TheVariants.{No}
use Rattle.indicatif_bar.specs.Trackers.{Tracking}
use Rattle.indicatif_bar.specs.PositionLimiters.{allow_position}
use Rattle.indicatif_bar.specs.Commands.{BarRecord, Command, Inc, ForceDraw, obeyed, tick, ticker_tick}
use Rattle.indicatif_board.specs.BoardBars.{board_bars}
use Rattle.indicatif_board.specs.Boards.{BoardState, Redraw, says, drawn_of, drawn_of_said, board}

-- where both have this position, so has the one that is taken
either : {K : Type 0} (b : Bool) (x y : BarRecord K × Ask) (p : ℕ) → x.0.progress.position ≡ p → y.0.progress.position ≡ p → (if b then x else y).0.progress.position ≡ p
either true x y p one other = one
either false x y p one other = other

pub moved_position : {K : Type 0} (m : Tracking K) (n : ℕ) (bar : BarRecord K) (now : ℕ) → (obeyed m (Inc n) bar now).0.progress.position ≡ (bar.progress.position + n) % 2 ^ 64
moved_position {K} m n bar now =
    let asked = allow_position bar.limiter now in
    let p = (bar.progress.position + n) % 2 ^ 64 in
    let next : BarRecord K = record bar { progress = record bar.progress { position = p }; limiter = asked.1 } in
    either asked.0 (tick m next now) (next, No) p (either bar.ticker (next, No) (ticker_tick m next now) p refl refl) refl

-- ---- the terminal's faults

module _ {K T : Type 0} (m : Tracking K) (view : T → TermView) where
  term_of : (o : Option T) (v : TermView) → option_map view o ≡ Some v → (t : T) × (o ≡ Some t) × (view t ≡ v)
  term_of None v e = absurd (cc e)
  term_of (Some t) v e = (t, refl, cc e)

  -- in a call of a lone bar they grow exactly by its failure
  pub lent_faults : (old new : Option T) (call : LoneCall (Command K) × ℕ) (s next : LoneState (BarRecord K)) (answer : Result Drawn Refusal) →
      CallMade (lone_bar m) (option_map view old) (option_map view new) call s answer next → (term : T) → old ≡ Some term →
      (t : T) × (new ≡ Some t) × ((view t).faults ≡ (if is_failure answer then ((view term).faults + 1) % 2 ^ 64 else (view term).faults))
  lent_faults old new call s next answer made term there =
      let W = λ (o : Option T). MatchOption (option_map view o) (option_map view new ≡ None) (λ v. (v' : TermView) × (option_map view new ≡ Some v')
      × WritesLines v v' (lines_by (deed_on (lone_bar m) (option_map view o) call s)) s.lists next.lists answer) in
      let w = subst W there made.writes in
      let t = term_of new w.0 w.1 in
      (t.0, t.1, ap (λ v. v.faults) t.2 ∙ w.2.counted.faults_are)

-- ---- where there is nothing to draw on

abbrev nowhere : Target
nowhere = record { hidden = true; columns = 0; rows = 0 }

abbrev pub without_columns : ℕ → Target
without_columns rows = record { hidden = false; columns = 0; rows = rows }

module _ {K : Type 0} (m : Tracking K) (now : ℕ) (s next : LoneState (BarRecord K)) (answer : Result Drawn Refusal) where
  -- a forced draw led there on a target
  abbrev pub Forces : Target → Type 0
  Forces target = Leads (lone_bar m) target s ((lone_bar m).deed target (Obey ForceDraw) now s) answer next

  pub forced_hidden : Forces nowhere → answer ≡ Ok Hidden
  unfolding drawn_by
  forced_hidden (inl made) = ap (λ o. o.0) made
  forced_hidden (inr (inl short)) = elim short.1 [ inl text ↦ absurd (false≢true text.0) | inr lines ↦ absurd (false≢true lines.0) ]
  forced_hidden (inr (inr broken)) = absurd (let q = broken.2.0 in cc q)

  pub forced_narrow : (rows : ℕ) → Forces (without_columns rows) → answer ≡ Err NoColumns
  unfolding drawn_by
  forced_narrow rows (inl made) = ap (λ o. o.0) made
  forced_narrow rows (inr (inl short)) = elim short.1 [ inl text ↦ absurd (false≢true text.0) | inr lines ↦ absurd (false≢true lines.0) ]
  forced_narrow rows (inr (inr broken)) = absurd (let q = broken.2.0 in cc q)

-- the same of a board whose bars are drawn
module _ {K : Type 0} (m : Tracking K) (mark now : ℕ) (s next : BoardState (BarRecord K)) (answer : Result Drawn Refusal) where
  abbrev pub Redraws : Target → Type 0
  Redraws target = Leads (board (board_bars m) mark) target s ((board (board_bars m) mark).deed target Redraw now s) (says answer) next

  said : (r : Result Drawn Refusal) → says answer ≡ says r → answer ≡ r
  said r e = sym (drawn_of_said answer) ∙ ap drawn_of e ∙ drawn_of_said r

  pub redrawn_hidden : Redraws nowhere → answer ≡ Ok Hidden
  unfolding drawn_by
  redrawn_hidden (inl made) = said (Ok Hidden) (ap (λ o. o.0) made)
  redrawn_hidden (inr (inl short)) = elim short.1 [ inl text ↦ absurd (false≢true text.0) | inr lines ↦ absurd (false≢true lines.0) ]
  redrawn_hidden (inr (inr broken)) = absurd (let q = broken.2.0 in cc q)

  pub redrawn_narrow : (rows : ℕ) → Redraws (without_columns rows) → answer ≡ Err NoColumns
  unfolding drawn_by
  redrawn_narrow rows (inl made) = said (Err NoColumns) (ap (λ o. o.0) made)
  redrawn_narrow rows (inr (inl short)) = elim short.1 [ inl text ↦ absurd (false≢true text.0) | inr lines ↦ absurd (false≢true lines.0) ]
  redrawn_narrow rows (inr (inr broken)) = absurd (let q = broken.2.0 in cc q)
