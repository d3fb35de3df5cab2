use Rattle.std.proofs.Common.{true, Ok, Err, refl, sym, ap, subst}
use Rattle.indicatif_term.specs.Inside.EndedRows.{Held, Ended, Falls}
use Rattle.indicatif_term.specs.declared.target.ended_rows.Phase.TheVariants.{Resting}
use Rattle.indicatif_term.proofs.EndedRowLemmas.{from_weaker, fall_fails, stands}
use Rattle.indicatif_term.proofs.EndedTurnLemmas.{returned, rested, rests}
use Rattle.indicatif_term.proofs.target.ended_rows.EndedRows.rest.Goals.{then-eq+in_ok-send, else-eq}
use Rattle.indicatif_term.proofs.target.ended_rows.EndedRows.rest.Goals as goal

pub returns-in_err-send : goal.returns-in_err-send
returns-in_err-send g c front =
    let view = g.T.TermLike.view in
    let e = Err c.in_err-send.field-0.0 in
    fall_fails view c.from_residual.result c.from_residual.ensures.1
    (from_weaker view {a = c.args.self.now} {a' = c.args.self.now} e refl (λ s m x. x.0) (returned view e c.in_err-send.ensures.same true c.in_err-send.ensures.writes))

pub returns : goal.returns
returns g c front =
    let view = g.T.TermLike.view in
    let own = c.args.self.now in
    elim c.if-eq.branch [
      | then-eq+in_ok-send w ↦ subst (λ o. Falls view (Held view true) (Ended view) (λ s. s) own (record o { place = Resting }) (Ok tt)) (sym w.self-is)
          (rests view front (ap (λ o. o.column) w.in_ok-send.ensures.same)
          (from_weaker view {a = own} {a' = own} (Ok tt) refl (λ s m x. x.0) (returned view (Ok tt) w.in_ok-send.ensures.same true w.in_ok-send.ensures.writes)))
      | else-eq w ↦ subst (λ o. Falls view (Held view true) (Ended view) (λ s. s) own (record o { place = Resting }) (Ok tt)) (sym w.self-is)
          (stands view refl (λ s m x. rested view front x.0))
    ]
