use Rattle.std.proofs.Common.{◌∙◌, chars, ap, arith}
use Rattle.std.proofs.lemmas.Str.{scalars-chars}
use Rattle.indicatif_term.proofs.EndedStepLemmas.{led_of}
use Rattle.indicatif_term.proofs.EndedCallLemmas.{chars_sent}
use Rattle.indicatif_term.proofs.EndedTextLemmas.{run_fits, text_bytes}
use Rattle.indicatif_term.proofs.target.ended_rows.EndedRows.put_run.Goals as goal

pub returns : goal.returns
returns g c =
    let view = g.T.TermLike.view in
    let text = c.args.text.now in
    let r = c.send.result in
    let e = c.send.ensures.same in
    let led = led_of view (ap (λ o. o.row) e) (ap (λ o. o.faults) e) (ap (λ o. o.column) e ∙ c.saturating_add-self.ensures) (ap (λ o. o.place) e) in
    chars_sent view r (chars text) c.columns-wide.result (scalars-chars text c.utf8.text) led (text_bytes view text _ _ r c.utf8.text c.send.ensures.writes)
    (λ s m x. x) (λ s m x. run_fits view text c.columns-wide.ensures (omega (arith, c.room.ensures, c.if-wide-room.false)) x)
