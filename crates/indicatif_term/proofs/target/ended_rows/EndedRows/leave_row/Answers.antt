use Rattle.std.proofs.Common.{◌∙◌, Ok, Err, refl, ap, arith}
use Rattle.indicatif_term.proofs.EndedRowLemmas.{fall_fails, then_falls, stands}
use Rattle.indicatif_term.proofs.EndedTurnLemmas.{left_front, left_edge, moved_right, end_sent, also_sent}
use Rattle.indicatif_term.proofs.target.ended_rows.EndedRows.leave_row.Goals as goal

pub returns-then-not-self : goal.returns-then-not-self
returns-then-not-self g c wraps = stands g.T.TermLike.view refl (λ s m x. x)

pub returns-in_err-send : goal.returns-in_err-send
returns-in_err-send g c wraps =
    let view = g.T.TermLike.view in
    fall_fails view c.from_residual.result c.from_residual.ensures.1
    (left_front view wraps (Err c.in_err-send.field-0.0) c.in_err-send.ensures.same c.in_err-send.ensures.writes)

pub returns-in_err-go_right : goal.returns-in_err-go_right
returns-in_err-go_right g c wraps =
    let view = g.T.TermLike.view in
    let e = Err c.in_err-go_right.field-0.0 in
    fall_fails view c.from_residual-in_err-go_right.result c.from_residual-in_err-go_right.ensures.1
    (then_falls view e (left_front view wraps (Ok tt) c.in_ok-send.ensures.same c.in_ok-send.ensures.writes)
    (moved_right view e (also_sent c.send.new.self c.go_right.new.self c.in_err-go_right.ensures.same) wraps c.width-told.result (omega (arith, c.width-told.type_inv))
    c.in_err-go_right.ensures.writes))

pub returns : goal.returns
returns g c wraps =
    let view = g.T.TermLike.view in
    let r = c.send-2.result in
    left_edge view wraps r (ap (λ o. o.place) c.send-2.ensures.same ∙ ap (λ o. o.place) c.in_ok-go_right.ensures.same ∙ ap (λ o. o.place) c.in_ok-send.ensures.same)
    (then_falls view r
    (then_falls view (Ok tt) (left_front view wraps (Ok tt) c.in_ok-send.ensures.same c.in_ok-send.ensures.writes)
    (moved_right view (Ok tt) (also_sent c.send.new.self c.go_right.new.self c.in_ok-go_right.ensures.same) wraps c.width-told.result (omega (arith, c.width-told.type_inv))
    c.in_ok-go_right.ensures.writes))
    (end_sent view r c.send-2.ensures.same wraps c.send-2.ensures.writes))
