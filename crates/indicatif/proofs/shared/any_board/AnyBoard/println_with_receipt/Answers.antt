use Rattle.indicatif_board.specs.Boards.{Log}
use Rattle.indicatif.proofs.SharedLemmas.{open_made, open_can}
use Rattle.indicatif.proofs.shared.any_board.AnyBoard.println_with_receipt.Goals as goal

pub returns-in-Open-clause-made : goal.returns-in-Open-clause-made
returns-in-Open-clause-made g c = rw c.in-Open.is
    (open_made g.K.Tracks.means g.T.TermLike.view c.in-Open.board c.println.new.self (Log c.args.text.now) c.args.now c.println.result c.println.ensures.leads)

pub returns-in-Open-clause-can : goal.returns-in-Open-clause-can
returns-in-Open-clause-can g c =
    open_can g.K.Tracks.means g.T.TermLike.view c.in-Open.board c.println.new.self (Log c.args.text.now) c.args.now c.println.result c.order.ensures.some c.println.ensures.leads

pub returns-in-Recorded-clause-made : goal.returns-in-Recorded-clause-made
returns-in-Recorded-clause-made g c = rw c.in-Recorded.is c.logged.ensures.made
