use Rattle.std.proofs.Common.{refl}
use Rattle.indicatif_board.specs.Calls.{call_of, answer_of}
use Rattle.indicatif_board.specs.Multi.{mark_of}
use Rattle.indicatif.proofs.SharedLemmas.{can_answer, grows_so, record_answers}
use Rattle.indicatif.proofs.shared.any_board.AnyBoard.call.Goals as goal

pub returns-in-Open-clause-made : goal.returns-in-Open-clause-made
returns-in-Open-clause-made g c = rw c.in-Open.is (c.call.new.self, refl, c.call.ensures.leads)

pub returns-in-Open-clause-can : goal.returns-in-Open-clause-can
returns-in-Open-clause-can g c =
    let some = c.order.ensures.some in
    can_answer g.K.Tracks.means g.T.TermLike.view c.in-Open.board c.call.new.self (call_of c.args.call) c.args.now (answer_of c.call.result) (mark_of c.in-Open.board) some.0 some.1
    c.call.ensures.leads

pub returns-in-Recorded-clause-made : goal.returns-in-Recorded-clause-made
returns-in-Recorded-clause-made g c = rw (c.in-Recorded.is, c.answer_alone.ensures)
    (c.apply.new.self, refl, grows_so g.K.Tracks.means g.T.TermLike.view c.in-Recorded.record c.apply.new.self (call_of c.args.call) c.args.now c.apply.result.0 c.apply.ensures.grows)

pub returns-in-Recorded-clause-can : goal.returns-in-Recorded-clause-can
returns-in-Recorded-clause-can g c = rw c.answer_alone.ensures
    (record_answers g.K.Tracks.means g.T.TermLike.view c.in-Recorded.record c.apply.new.self (call_of c.args.call) c.args.now (answer_of c.apply.result.0) c.replays.ensures
    (grows_so g.K.Tracks.means g.T.TermLike.view c.in-Recorded.record c.apply.new.self (call_of c.args.call) c.args.now c.apply.result.0 c.apply.ensures.grows))
