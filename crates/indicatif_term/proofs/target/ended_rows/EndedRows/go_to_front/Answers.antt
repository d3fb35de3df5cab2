use Rattle.std.proofs.Common.{[], ◌∷◌}
use Rattle.indicatif_term.proofs.EndedCallLemmas.{front_sent}
use Rattle.indicatif_term.proofs.EndedStepLemmas.{led_by, writes_from}
use Rattle.indicatif_term.proofs.target.ended_rows.EndedRows.go_to_front.Goals as goal

pub returns : goal.returns
returns g c =
    let view = g.T.TermLike.view in
    front_sent view c.send.result (led_by view c.is_at.ensures c.send.ensures.same)
    (writes_from view (0x0D ∷ []) (view c.send.new.self.term) c.send.result c.is_at.ensures c.send.ensures.writes)
