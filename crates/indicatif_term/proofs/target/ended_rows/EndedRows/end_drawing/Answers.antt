use Rattle.std.proofs.Common.{Ok, Err}
use Rattle.indicatif_term.proofs.EndedRowLemmas.{fall_fails, then_falls}
use Rattle.indicatif_term.proofs.EndedTurnLemmas.{on_sent, closes}
use Rattle.indicatif_term.proofs.target.ended_rows.EndedRows.end_drawing.Goals as goal

pub returns-in_err-send : goal.returns-in_err-send
returns-in_err-send g c =
    let view = g.T.TermLike.view in
    fall_fails view c.from_residual.result c.from_residual.ensures.1 (on_sent view (Err c.in_err-send.field-0.0) c.in_err-send.ensures.same c.in_err-send.ensures.writes)

pub returns-in_err-leave : goal.returns-in_err-leave
returns-in_err-leave g c =
    let view = g.T.TermLike.view in
    let e = Err c.in_err-leave.field-0.0 in
    fall_fails view c.from_residual-in_err-leave.result c.from_residual-in_err-leave.ensures.1
    (then_falls view e (on_sent view (Ok tt) c.in_ok-send.ensures.same c.in_ok-send.ensures.writes) c.in_err-leave.ensures)

pub returns : goal.returns
returns g c =
    let view = g.T.TermLike.view in
    let r = c.send-2.result in
    then_falls view r
    (then_falls view (Ok tt) (on_sent view (Ok tt) c.in_ok-send.ensures.same c.in_ok-send.ensures.writes) c.in_ok-leave.ensures)
    (closes view r c.closing.ensures c.send-2.ensures.same c.send-2.ensures.writes)
