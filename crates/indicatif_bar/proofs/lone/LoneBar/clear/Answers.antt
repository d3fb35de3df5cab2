use Rattle.std.proofs.Common.{refl}
use Rattle.indicatif_bar.specs.Kinds.{NoFrame}
use Rattle.indicatif_bar.specs.declared.ask.Ask.TheVariants.{Forced}
use Rattle.indicatif_bar.proofs.LoneDrawLemmas.{draws_on, clear_leads}
use Rattle.indicatif_bar.proofs.lone.LoneBar.clear.Goals as goal

pub returns-clause-leads : goal.returns-clause-leads
returns-clause-leads g c =
    let m = g.K.Tracks.means in
    let view = g.T.TermLike.view in
    let old = c.args.self.now in
    let new = record old { shown = c.draw_on.new.self; stage = c.draw_on.new.stage } in
    let e = c.draw_on.ensures in
    clear_leads m view old old new c.args.now c.draw_on.result
    (draws_on m view old old new c.args.now c.draw_on.result Forced NoFrame refl e.bar e.silent e.nowhere e.moves e.drew)
