use Rattle.std.proofs.Common.{◌∙◌, ap, sym, Some}
use Rattle.indicatif_board.specs.Calls.{call_of}
use Rattle.bars_run.specs.Commands.{OfBar, action_of}
use Rattle.bars_run.specs.Player.{calling, call_on, script_step}
use Rattle.bars_run.proofs.PlayLemmas.{obeyed}
use Rattle.bars_run.proofs.player.Player.tell.Goals as goal

pub returns : goal.returns
returns c =
    let action = action_of c.args.action in
    let found = c.in_ok-id.ensures in
    obeyed c.make.result (OfBar c.args.number action) (calling (call_of c.in_ok-call.call)) c.args.self.now.board c.make.new.self.board
    (ap (λ number. script_step (OfBar number action)) found.1 ∙ ap (λ id. Some (calling (call_on id action))) (sym found.2) ∙ ap (λ call. Some (calling call)) (sym c.in_ok-call.ensures))
    c.make.ensures.made
