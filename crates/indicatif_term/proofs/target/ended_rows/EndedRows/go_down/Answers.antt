use Rattle.std.proofs.Common.{Ok, refl, arith}
use Rattle.indicatif_term.proofs.EndedRowLemmas.{fall_fails, then_falls}
use Rattle.indicatif_term.proofs.EndedStepLemmas.{led_of}
use Rattle.indicatif_term.proofs.EndedCallLemmas.{down_sent, no_rows}
use Rattle.indicatif_term.proofs.target.ended_rows.EndedRows.go_down.Goals as goal

pub returns-then-n-eq0 : goal.returns-then-n-eq0
returns-then-n-eq0 g c wraps = no_rows g.T.TermLike.view (Ok tt) wraps 0x42 c.args.n (omega (arith, c.if-n-eq0.true)) refl

pub returns-in_err-leave_row : goal.returns-in_err-leave_row
returns-in_err-leave_row g c wraps = fall_fails g.T.TermLike.view c.from_residual.result c.from_residual.ensures.1 (c.in_err-leave_row.ensures wraps)

pub returns : goal.returns
returns g c wraps =
    let view = g.T.TermLike.view in
    let r = c.move_cursor_down.result in
    then_falls view r (c.in_ok-leave_row.ensures wraps)
    (down_sent view r wraps c.args.n (omega (arith, c.if-n-eq0.false)) (omega (arith, c.ranges.n)) (led_of view refl refl refl refl) c.move_cursor_down.ensures)
