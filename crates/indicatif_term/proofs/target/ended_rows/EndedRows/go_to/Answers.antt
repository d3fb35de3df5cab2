use Rattle.std.proofs.Common.{refl, ap, arith}
use Rattle.indicatif_term.proofs.EndedCallLemmas.{right_sent}
use Rattle.indicatif_term.proofs.EndedRowLemmas.{from_weaker, to_weaker, fall_fails, then_falls}
use Rattle.indicatif_term.proofs.EndedStepLemmas.{led_of}
use Rattle.indicatif_term.proofs.target.ended_rows.EndedRows.go_to.Goals as goal

pub returns-in_err-go_to_front : goal.returns-in_err-go_to_front
returns-in_err-go_to_front g c =
    let view = g.T.TermLike.view in
    from_weaker view c.from_residual.result refl (λ s m x. x.0) (fall_fails view c.from_residual.result c.from_residual.ensures.1 c.in_err-go_to_front.ensures)

pub returns : goal.returns
returns g c =
    let view = g.T.TermLike.view in
    let e = c.go_right.ensures.same in
    then_falls view c.go_right.result (to_weaker view _ (λ s m m' x y. (y, x.1)) (from_weaker view _ refl (λ s m x. x.0) c.in_ok-go_to_front.ensures))
    (right_sent view c.go_right.result c.args.column (omega (arith, c.ranges.column))
    (led_of view (ap (λ o. o.row) e) (ap (λ o. o.faults) e) (ap (λ o. o.column) e) (ap (λ o. o.place) e)) c.go_right.ensures.writes)
