use Rattle.std.proofs.Common.{chars, ap}
use Rattle.std.proofs.lemmas.Str.{scalars-chars}
use Rattle.indicatif_term.proofs.EndedStepLemmas.{led_of}
use Rattle.indicatif_term.proofs.EndedCallLemmas.{colour_sent}
use Rattle.indicatif_term.proofs.EndedTextLemmas.{text_bytes}
use Rattle.indicatif_term.proofs.target.ended_rows.EndedRows.put_colour.Goals as goal

pub returns : goal.returns
returns g c =
    let view = g.T.TermLike.view in
    let text = c.args.text.now in
    let r = c.send.result in
    let e = c.send.ensures.same in
    colour_sent view r (chars text) (scalars-chars text c.utf8.text) (led_of view (ap (λ o. o.row) e) (ap (λ o. o.faults) e) (ap (λ o. o.column) e) (ap (λ o. o.place) e))
    (text_bytes view text _ _ r c.utf8.text c.send.ensures.writes)
