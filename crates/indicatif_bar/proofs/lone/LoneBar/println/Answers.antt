use Rattle.std.proofs.Common.{refl}
use Rattle.indicatif_term.specs.Lines.{text_lines, logged_lines}
use Rattle.indicatif_bar.specs.Kinds.{TextAndFrame}
use Rattle.indicatif_bar.specs.declared.ask.Ask.TheVariants.{Forced}
use Rattle.indicatif_bar.proofs.LoneDrawLemmas.{draws_on, log_leads}
use Rattle.indicatif_bar.proofs.lone.LoneBar.println.Goals as goal

pub returns-clause-leads : goal.returns-clause-leads
returns-clause-leads g c =
    let m = g.K.Tracks.means in
    let view = g.T.TermLike.view in
    let old = c.args.self.now in
    let new = record old { shown = c.draw_on.new.self; stage = c.draw_on.new.stage } in
    let e = c.draw_on.ensures in
    log_leads m view old old new c.args.now c.draw_on.result c.args.text.now
    (draws_on m view old old new c.args.now c.draw_on.result Forced (TextAndFrame (text_lines (logged_lines c.args.text.now))) refl e.bar e.silent e.nowhere e.moves e.drew)
