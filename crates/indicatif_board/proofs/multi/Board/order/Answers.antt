use Rattle.std.proofs.Common.{◌∙◌, sym, ap}
use Rattle.indicatif_board.specs.Multi.{IsIn}
use Rattle.indicatif_board.specs.Slots.{occurrences}
use Rattle.indicatif_board.proofs.BarRecordLemmas.{record_none}
use Rattle.indicatif_board.proofs.MemberLemmas.{order_is}
use Rattle.indicatif_board.proofs.SomeBoardLemmas.{some_board}
use Rattle.indicatif_board.proofs.multi.Board.order.Goals as goal

pub returns-clause-order : goal.returns-clause-order
unfolding IsIn
returns-clause-order g c = λ mark s inside.
    let b = c.args.self.now.shown in
    c.order.ensures.order ∙ sym b.seated ∙ order_is b.frame.items s.members inside.1.frame_is

pub returns-clause-some : goal.returns-clause-some
returns-clause-some g c = some_board c.args.self.now

pub returns-clause-absent : goal.returns-clause-absent
returns-clause-absent g c = λ number none.
    let b = c.args.self.now.shown in
    record_none number b.table.order b.members.items (ap (occurrences number) (sym c.order.ensures.order) ∙ none)
