use Rattle.std.proofs.Common.{◌≡◌, false, ap, subst, inl, inr}
use Rattle.indicatif_term.specs.Cells.{view_of}
use Rattle.indicatif_bar.specs.Trackers.{writes_nothing}
use Rattle.indicatif_board.specs.Calls.{answer_of, call_of}
use Rattle.indicatif_board.specs.Multi.{LeadsBy}
use Rattle.bars_run.specs.Player.{is_refused}
use Rattle.bars_run.proofs.PlayLemmas.{called}
use Rattle.bars_run.proofs.player.Player.make.Goals as goal

pub returns-in-Id-clause-made : goal.returns-in-Id-clause-made
returns-in-Id-clause-made c =
    called (call_of c.args.call) (answer_of c.call.result) c.args.self.now.board c.call.new.self (ap (λ a. is_refused (answer_of a)) c.in-Id.is) c.call.ensures.leads

pub returns-in-Accepted-clause-made : goal.returns-in-Accepted-clause-made
returns-in-Accepted-clause-made c =
    let fine : is_refused (answer_of c.call.result) ≡ false =
    elim c.in-Accepted.is [ inl e ↦ ap (λ a. is_refused (answer_of a)) e | inr e ↦ ap (λ a. is_refused (answer_of a)) e.1 ] in
    called (call_of c.args.call) (answer_of c.call.result) c.args.self.now.board c.call.new.self fine c.call.ensures.leads

pub returns-in-Refused-clause-refused : goal.returns-in-Refused-clause-refused
returns-in-Refused-clause-refused c =
    subst (λ a. LeadsBy writes_nothing view_of c.args.self.now.board c.call.new.self (call_of c.args.call) 0 (answer_of a)) c.in-Refused.is c.call.ensures.leads
