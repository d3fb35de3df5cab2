use Rattle.std.proofs.Common.{false, Ok, refl, arith}
use Rattle.indicatif_term.proofs.EndedRowLemmas.{carry_fails, then_carries}
use Rattle.indicatif_term.proofs.EndedStepLemmas.{led_of}
use Rattle.indicatif_term.proofs.EndedCallLemmas.{up_sent, no_rows}
use Rattle.indicatif_term.proofs.target.ended_rows.EndedRows.go_up.Goals as goal

pub returns-then-n-eq0 : goal.returns-then-n-eq0
returns-then-n-eq0 g c = (no_rows g.T.TermLike.view (Ok tt) false 0x41 c.args.n (omega (arith, c.if-n-eq0.true)) refl).carries

pub returns-in_err-leave_row : goal.returns-in_err-leave_row
returns-in_err-leave_row g c = carry_fails g.T.TermLike.view c.from_residual.result c.from_residual.ensures.1 (c.in_err-leave_row.ensures false).carries

pub returns : goal.returns
returns g c =
    let view = g.T.TermLike.view in
    let r = c.move_cursor_up.result in
    then_carries view r (c.in_ok-leave_row.ensures false)
    (up_sent view r c.args.n (omega (arith, c.if-n-eq0.false)) (omega (arith, c.ranges.n)) (led_of view refl refl refl refl) c.move_cursor_up.ensures)
