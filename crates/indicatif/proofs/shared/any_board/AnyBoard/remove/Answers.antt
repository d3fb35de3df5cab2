use Rattle.indicatif_board.specs.Boards.{Remove}
use Rattle.indicatif_board.specs.BarIds.{id_of}
use Rattle.indicatif_board.specs.Calls.{answer_of, removal}
use Rattle.indicatif_board.specs.Multi.{mark_of}
use Rattle.indicatif.proofs.SharedLemmas.{can_answer, grows_so, record_answers, refused_as, refused_so, removed_open, removed_recorded}
use Rattle.indicatif.proofs.shared.any_board.AnyBoard.remove.Goals as goal

pub returns-in-Open-clause-made : goal.returns-in-Open-clause-made
returns-in-Open-clause-made g c = rw c.in-Open.is
    (removed_open g.K.Tracks.means g.T.TermLike.view c.in-Open.board c.remove.new.self (id_of c.args.id) c.args.now c.remove.result (c.remove.ensures.leads c.args.now))

pub returns-in-Open-clause-can : goal.returns-in-Open-clause-can
returns-in-Open-clause-can g c =
    let some = c.order.ensures.some in
    refused_so g.K.Tracks.means g.T.TermLike.view (id_of c.args.id) c.remove.result
    (can_answer g.K.Tracks.means g.T.TermLike.view c.in-Open.board c.remove.new.self (Remove (id_of c.args.id)) c.args.now (removal c.remove.result) (mark_of c.in-Open.board) some.0 some.1
    (c.remove.ensures.leads c.args.now))

pub returns-in-Recorded-clause-made : goal.returns-in-Recorded-clause-made
returns-in-Recorded-clause-made g c = rw c.in-Recorded.is
    (removed_recorded g.K.Tracks.means g.T.TermLike.view c.in-Recorded.record c.apply.new.self (id_of c.args.id) c.args.now c.bar_unless_refused.result c.apply.result.0 c.bar_unless_refused.ensures
    (grows_so g.K.Tracks.means g.T.TermLike.view c.in-Recorded.record c.apply.new.self (Remove (id_of c.args.id)) c.args.now c.apply.result.0 c.apply.ensures.grows))

pub returns-in-Recorded-clause-can : goal.returns-in-Recorded-clause-can
returns-in-Recorded-clause-can g c = refused_as g.K.Tracks.means g.T.TermLike.view (id_of c.args.id) c.bar_unless_refused.result c.apply.result.0 c.bar_unless_refused.ensures
    (record_answers g.K.Tracks.means g.T.TermLike.view c.in-Recorded.record c.apply.new.self (Remove (id_of c.args.id)) c.args.now (answer_of c.apply.result.0) c.replays.ensures
    (grows_so g.K.Tracks.means g.T.TermLike.view c.in-Recorded.record c.apply.new.self (Remove (id_of c.args.id)) c.args.now c.apply.result.0 c.apply.ensures.grows))
