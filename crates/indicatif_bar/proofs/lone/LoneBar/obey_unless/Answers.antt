use Rattle.std.proofs.Common.{sym, ◌∙◌, ap, subst, Ok, Err}
use Rattle.std.proofs.lemmas.Result.{err_from_is_err_and}
use Rattle.indicatif_text.specs.declared.refusal.Drawn.TheVariants.{Limited}
use Rattle.indicatif_bar.specs.Kinds.{Frame}
use Rattle.indicatif_bar.specs.Inside.Lone.{IsToldOrNot}
use Rattle.indicatif_bar.proofs.LoneDrawLemmas.{obeys_or_not, refuses, draws_none, draws_on}
use Rattle.indicatif_bar.proofs.lone.LoneBar.obey_unless.Goals as goal

pub returns-in_err-ask-clause-obeys : goal.returns-in_err-ask-clause-obeys
returns-in_err-ask-clause-obeys g c = λ old command told.
    let x = err_from_is_err_and c.from_residual.result c.from_residual.ensures.1 in
    rw (x.1 ∙ ap Err x.2)
    (refuses g.K.Tracks.means g.T.TermLike.view old command c.args.now c.args.self.now c.in_err-ask.field-0.0
    (subst (λ r. IsToldOrNot g.K.Tracks.means old c.args.self.now command c.args.now r) c.in_err-ask.was told))

pub returns-then-is_no-clause-obeys : goal.returns-then-is_no-clause-obeys
returns-then-is_no-clause-obeys g c = λ old command told.
    let m = g.K.Tracks.means in
    let view = g.T.TermLike.view in
    let mid = c.args.self.now in
    let ask = c.in_ok-ask.ask in
    obeys_or_not m view old mid mid c.args.now (Ok Limited) command ask (subst (λ r. IsToldOrNot m old mid command c.args.now r) c.in_ok-ask.was told)
    (draws_none m view old mid c.args.now ask Frame (sym c.is_no.ensures ∙ c.if-is_no.true))

pub returns-clause-obeys : goal.returns-clause-obeys
returns-clause-obeys g c = λ old command told.
    let m = g.K.Tracks.means in
    let view = g.T.TermLike.view in
    let mid = c.args.self.now in
    let ask = c.in_ok-ask.ask in
    let new = record mid { shown = c.draw_on.new.self; stage = c.draw_on.new.stage } in
    let e = c.draw_on.ensures in
    obeys_or_not m view old mid new c.args.now c.draw_on.result command ask (subst (λ r. IsToldOrNot m old mid command c.args.now r) c.in_ok-ask.was told)
    (draws_on m view old mid new c.args.now c.draw_on.result ask Frame (sym c.is_no.ensures ∙ c.if-is_no.false) e.bar e.silent e.nowhere e.moves e.drew)
