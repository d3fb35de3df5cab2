use Rattle.std.proofs.Common.{◌++◌, ◌∙◌, ap, subst, inl}
use Rattle.indicatif_board.specs.Boards.{Log, says}
use Rattle.indicatif_board.specs.Bridge.{bridge_bytes}
use Rattle.indicatif_board.specs.Multi.{LeadsBy}
use Rattle.indicatif_board.proofs.bridge.emit.Goals as goal

pub returns-clause-logged : goal.returns-clause-logged
returns-clause-logged g c = inl (subst (λ t. LeadsBy g.K.Tracks.means g.T.TermLike.view c.args.board.now c.println.new.self (Log t) c.args.now (says c.println.result))
    (c.as_str.ensures.value ∙ c.in_ok-bridge_line.ensures.line ∙ ap (λ xs. xs ++ bridge_bytes c.args.level c.args.text.now) c.new-line.ensures.bytes) c.println.ensures.leads)
