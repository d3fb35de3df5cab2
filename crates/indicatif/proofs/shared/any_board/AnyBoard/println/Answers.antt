use Rattle.indicatif_board.specs.Boards.{Log}
use Rattle.indicatif_board.specs.Calls.{call_of}
use Rattle.indicatif.proofs.SharedLemmas.{open_made, open_can, kept_answers, kept_makes}
use Rattle.indicatif.proofs.shared.any_board.AnyBoard.println.Goals as goal

pub returns-in-Open-clause-made : goal.returns-in-Open-clause-made
returns-in-Open-clause-made g c = rw c.in-Open.is
    (open_made g.K.Tracks.means g.T.TermLike.view c.in-Open.board c.println.new.self (Log c.args.text.now) c.args.now c.println.result c.println.ensures.leads)

pub returns-in-Open-clause-can : goal.returns-in-Open-clause-can
returns-in-Open-clause-can g c =
    open_can g.K.Tracks.means g.T.TermLike.view c.in-Open.board c.println.new.self (Log c.args.text.now) c.args.now c.println.result c.order.ensures.some c.println.ensures.leads

pub returns-in-Recorded-clause-made : goal.returns-in-Recorded-clause-made
returns-in-Recorded-clause-made g c =
    let drawn = c.draw_kept.ensures in
    kept_makes g.K.Tracks.means g.T.TermLike.view call_of (Log c.args.text.now) c.args.now c.args.self.now _ c.draw_kept.new.self c.draw_kept.result c.log_of.result
    c.in-Recorded.is c.log_of.ensures drawn.made drawn.refused

pub returns-in-Recorded-clause-can : goal.returns-in-Recorded-clause-can
returns-in-Recorded-clause-can g c =
    let drawn = c.draw_kept.ensures in
    kept_answers g.K.Tracks.means g.T.TermLike.view call_of (Log c.args.text.now) c.args.now c.args.self.now c.draw_kept.new.self c.draw_kept.result c.log_of.result
    c.log_of.ensures drawn.can drawn.refused
