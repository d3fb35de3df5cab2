use Rattle.std.proofs.Common.{◌≡◌, ℕ, ap, sym, ◌∙◌, inl, inr, false, Result, Ok, Err}
use Rattle.indicatif_text.specs.declared.refusal.Drawn.{Drawn}
use Rattle.indicatif_text.specs.declared.refusal.Refusal.{Refusal}
use Rattle.indicatif_text.specs.declared.refusal.Refusal.TheVariants.{Memory, Terminal}
use Rattle.indicatif_bar.specs.Commands.{BarRecord}
use Rattle.indicatif_bar.specs.Kinds.{NoFrame}
use Rattle.indicatif_bar.specs.Machines.{Target, Leads, target_of, drawn_by}
use Rattle.indicatif_bar.specs.Trackers.{Tracking}
use Rattle.indicatif_bar.specs.declared.ask.Ask.TheVariants.{Forced}
use Rattle.indicatif_board.specs.BoardBars.{board_bars}
use Rattle.indicatif_board.specs.Boards.{Answer, BoardState, Clear, Accepted, says, draw_of, board}
use Rattle.indicatif_board.specs.Calls.{answer_of}
use Rattle.indicatif_board.specs.Multi.{known}
use Rattle.uses.proofs.histories.answer_of_a_clear.Goals as goal

-- a draw's answer isn't `Accepted`
drawn_is_said : (drawn : Result Drawn Refusal) → says drawn ≡ Accepted → ⊥
drawn_is_said (Ok d) e = cc e
drawn_is_said (Err refusal) e = cc e

-- so that of a clear isn't
clear_is_drawn : {K : Type 0} (m : Tracking K) (mark now : ℕ) (s next : BoardState (BarRecord K)) (target : Target) (answer : Answer) →
    Leads (board (board_bars m) mark) target s ((board (board_bars m) mark).deed target Clear now s) answer next → answer ≡ Accepted → ⊥
clear_is_drawn m mark now s next target answer (inl made) e = drawn_is_said (drawn_by target (draw_of target false Forced now NoFrame s s false)).0 (sym (ap (λ o. o.0) made) ∙ e)
clear_is_drawn m mark now s next target answer (inr (inl short)) e = drawn_is_said (Err Memory) (sym short.0 ∙ e)
clear_is_drawn m mark now s next target answer (inr (inr broken)) e = drawn_is_said (Err (Terminal broken.0)) (sym broken.1 ∙ e)

pub returns : goal.returns
returns g c = λ done. elim c.apply.ensures.grows [
  | inl adds ↦
      let mark = c.args.history.now.mark in
      let begun = c.replays.ensures.2 in
      let target = target_of (known g.T.TermLike.view c.args.history.now.board) in
      let made = adds.leads mark begun.state begun.holds in
      clear_is_drawn g.K.ProgressTracker.means mark c.args.now begun.state made.0 target (answer_of c.apply.result.0) made.2.leads (ap answer_of done)
  | inr turned ↦ let z = sym turned.1 ∙ done in cc
]
