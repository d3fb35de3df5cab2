use Rattle.std.proofs.Common.{refl}
use Rattle.indicatif_term.specs.Calls.{clear_bytes}
use Rattle.indicatif_term.proofs.EndedCallLemmas.{emptied_sent}
use Rattle.indicatif_term.proofs.EndedStepLemmas.{led_by, writes_from}
use Rattle.indicatif_term.proofs.target.ended_rows.EndedRows.empty_row.Goals as goal

pub returns : goal.returns
returns g c =
    let view = g.T.TermLike.view in
    let e = c.is_at.ensures in
    emptied_sent view c.clear_line.result (led_by view e refl)
    (writes_from view clear_bytes (view c.clear_line.new.self) c.clear_line.result e c.clear_line.ensures)
