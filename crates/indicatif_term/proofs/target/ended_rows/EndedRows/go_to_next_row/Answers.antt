use Rattle.std.proofs.Common.{false, [], ◌∷◌}
use Rattle.indicatif_term.proofs.EndedRowLemmas.{fall_fails, then_falls}
use Rattle.indicatif_term.proofs.EndedCallLemmas.{next_sent}
use Rattle.indicatif_term.proofs.EndedStepLemmas.{led_by, writes_from}
use Rattle.indicatif_term.proofs.target.ended_rows.EndedRows.go_to_next_row.Goals as goal

pub returns-in_err-leave_row : goal.returns-in_err-leave_row
returns-in_err-leave_row g c = fall_fails g.T.TermLike.view c.from_residual.result c.from_residual.ensures.1 (c.in_err-leave_row.ensures false)

pub returns : goal.returns
returns g c =
    let view = g.T.TermLike.view in
    let r = c.send.result in
    then_falls view r (c.in_ok-leave_row.ensures false)
    (next_sent view r (led_by view c.is_at.ensures c.send.ensures.same)
    (writes_from view (0x0D ∷ 0x0A ∷ []) (view c.send.new.self.term) r c.is_at.ensures c.send.ensures.writes))
