use Rattle.std.proofs.Common.{sym, ◌∙◌, Ok}
use Rattle.indicatif_text.specs.declared.refusal.Drawn.TheVariants.{Limited}
use Rattle.indicatif_bar.specs.Kinds.{Frame}
use Rattle.indicatif_bar.proofs.LoneDrawLemmas.{obeys, draws_none, draws_on}
use Rattle.indicatif_bar.proofs.lone.LoneBar.obey.Goals as goal

pub returns-then-is_no-clause-obeys : goal.returns-then-is_no-clause-obeys
returns-then-is_no-clause-obeys g c = λ old command told.
    let m = g.K.Tracks.means in
    let view = g.T.TermLike.view in
    let mid = c.args.self.now in
    obeys m view old mid mid c.args.now (Ok Limited) command c.args.ask told
    (draws_none m view old mid c.args.now c.args.ask Frame (sym c.is_no.ensures ∙ c.if-is_no.true))

pub returns-clause-obeys : goal.returns-clause-obeys
returns-clause-obeys g c = λ old command told.
    let m = g.K.Tracks.means in
    let view = g.T.TermLike.view in
    let mid = c.args.self.now in
    let new = record mid { shown = c.draw_on.new.self; stage = c.draw_on.new.stage } in
    let e = c.draw_on.ensures in
    obeys m view old mid new c.args.now c.draw_on.result command c.args.ask told
    (draws_on m view old mid new c.args.now c.draw_on.result c.args.ask Frame (sym c.is_no.ensures ∙ c.if-is_no.false) e.bar e.silent e.nowhere e.moves e.drew)
