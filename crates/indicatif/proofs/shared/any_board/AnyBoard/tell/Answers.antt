use Rattle.std.proofs.Common.{subst}
use Rattle.indicatif_bar.specs.LoneBars.{lone_call_as}
use Rattle.indicatif_board.specs.Boards.{BarLog, says}
use Rattle.indicatif_board.specs.BarIds.{id_of}
use Rattle.indicatif_board.specs.Calls.{call_of}
use Rattle.indicatif_board.specs.Multi.{LeadsBy}
use Rattle.indicatif_board.specs.LoneLaws.{on_board}
use Rattle.indicatif.specs.Inside.SharedBoards.{SharedDraws}
use Rattle.indicatif.proofs.SharedLemmas.{open_made, open_can, kept_answers, kept_makes}
use Rattle.indicatif.proofs.shared.any_board.AnyBoard.tell.Goals as goal

pub returns-in-Bar-clause-made : goal.returns-in-Bar-clause-made
returns-in-Bar-clause-made g c = rw (c.in-Open.is, c.in-Bar.is)
    (open_made g.K.Tracks.means g.T.TermLike.view c.in-Open.board c.tell.new.self _ c.args.now c.tell.result c.tell.ensures.leads)

pub returns-in-Bar-clause-can : goal.returns-in-Bar-clause-can
returns-in-Bar-clause-can g c = rw c.in-Bar.is
    (open_can g.K.Tracks.means g.T.TermLike.view c.in-Open.board c.tell.new.self _ c.args.now c.tell.result c.order.ensures.some c.tell.ensures.leads)

pub returns-in-Log-clause-made : goal.returns-in-Log-clause-made
returns-in-Log-clause-made g c = rw (c.in-Open.is, c.in-Log.is)
    (open_made g.K.Tracks.means g.T.TermLike.view c.in-Open.board c.bar_println.new.self _ c.args.now c.bar_println.result
    (subst (λ text. LeadsBy g.K.Tracks.means g.T.TermLike.view c.in-Open.board c.bar_println.new.self (BarLog (id_of c.args.id) text) c.args.now (says c.bar_println.result))
    c.as_text.ensures c.bar_println.ensures.leads))

pub returns-in-Log-clause-can : goal.returns-in-Log-clause-can
returns-in-Log-clause-can g c = rw c.in-Log.is
    (subst (λ text. SharedDraws _ (BarLog (id_of c.args.id) text) c.bar_println.result) c.as_text.ensures
    (open_can g.K.Tracks.means g.T.TermLike.view c.in-Open.board c.bar_println.new.self _ c.args.now c.bar_println.result c.order.ensures.some c.bar_println.ensures.leads))

pub returns-in-Clear-clause-made : goal.returns-in-Clear-clause-made
returns-in-Clear-clause-made g c = rw (c.in-Open.is, c.in-Clear.is)
    (open_made g.K.Tracks.means g.T.TermLike.view c.in-Open.board c.clear.new.self _ c.args.now c.clear.result c.clear.ensures.leads)

pub returns-in-Clear-clause-can : goal.returns-in-Clear-clause-can
returns-in-Clear-clause-can g c = rw c.in-Clear.is
    (open_can g.K.Tracks.means g.T.TermLike.view c.in-Open.board c.clear.new.self _ c.args.now c.clear.result c.order.ensures.some c.clear.ensures.leads)

pub returns-in-Recorded-clause-made : goal.returns-in-Recorded-clause-made
returns-in-Recorded-clause-made g c =
    let call = on_board (id_of c.args.id) (lone_call_as g.S.Text.bytes c.args.call) in
    let drawn = c.draw_kept.ensures in
    kept_makes g.K.Tracks.means g.T.TermLike.view call_of call c.args.now c.args.self.now _ c.draw_kept.new.self c.draw_kept.result c.call_of_bar-kept.result
    c.in-Recorded.is c.call_of_bar-kept.ensures drawn.made drawn.refused

pub returns-in-Recorded-clause-can : goal.returns-in-Recorded-clause-can
returns-in-Recorded-clause-can g c =
    let call = on_board (id_of c.args.id) (lone_call_as g.S.Text.bytes c.args.call) in
    let drawn = c.draw_kept.ensures in
    kept_answers g.K.Tracks.means g.T.TermLike.view call_of call c.args.now c.args.self.now c.draw_kept.new.self c.draw_kept.result c.call_of_bar-kept.result
    c.call_of_bar-kept.ensures drawn.can drawn.refused
