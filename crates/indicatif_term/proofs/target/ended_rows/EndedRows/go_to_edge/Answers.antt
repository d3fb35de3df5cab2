use Rattle.std.proofs.Common.{Ok, Err, true, refl, arith}
use Rattle.indicatif_term.proofs.EndedRowLemmas.{fall_fails, then_falls, from_weaker}
use Rattle.indicatif_term.proofs.EndedCallLemmas.{alone_down}
use Rattle.indicatif_term.proofs.EndedTurnLemmas.{moved_right, blank_sent, also_sent}
use Rattle.indicatif_term.proofs.target.ended_rows.EndedRows.go_to_edge.Goals as goal

pub returns-in_err-go_down : goal.returns-in_err-go_down
returns-in_err-go_down g c =
    let view = g.T.TermLike.view in
    fall_fails view c.from_residual.result c.from_residual.ensures.1
    (alone_down view (Err c.in_err-go_down.field-0.0) true c.below.result c.below.ensures (c.in_err-go_down.ensures true))

pub returns-in_err-go_right : goal.returns-in_err-go_right
returns-in_err-go_right g c =
    let view = g.T.TermLike.view in
    let e = Err c.in_err-go_right.field-0.0 in
    fall_fails view c.from_residual-in_err-go_right.result c.from_residual-in_err-go_right.ensures.1
    (then_falls view e (alone_down view (Ok tt) true c.below.result c.below.ensures (c.in_ok-go_down.ensures true))
    (from_weaker view e refl (λ s m x. x.0)
    (moved_right view e (also_sent c.go_down.new.self c.go_right.new.self c.in_err-go_right.ensures.same) true 9999 (omega arith) c.in_err-go_right.ensures.writes)))

pub returns : goal.returns
returns g c =
    let view = g.T.TermLike.view in
    let r = c.send.result in
    then_falls view r
    (then_falls view (Ok tt) (alone_down view (Ok tt) true c.below.result c.below.ensures (c.in_ok-go_down.ensures true))
    (from_weaker view (Ok tt) refl (λ s m x. x.0)
    (moved_right view (Ok tt) (also_sent c.go_down.new.self c.go_right.new.self c.in_ok-go_right.ensures.same) true 9999 (omega arith) c.in_ok-go_right.ensures.writes)))
    (blank_sent view r c.send.ensures.same c.send.ensures.writes)
