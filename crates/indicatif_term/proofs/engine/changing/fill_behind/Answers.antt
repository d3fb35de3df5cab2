use Rattle.std.proofs.Common.{◌-◌, ◌∙◌, ap, sym, arith, length}
use Rattle.indicatif_term.specs.declared.engine.remembered.StandingLine.{StandingLine}
use Rattle.indicatif_term.proofs.RememberedLemmas.{last_behind}
use Rattle.indicatif_term.proofs.engine.changing.fill_behind.Goals as goal

pub returns : goal.returns
returns c =
    let x = c.index-lines-count.result in
    c.saturating_sub.ensures ∙ ap (λ (l : StandingLine). c.args.width - l.last) (sym c.index-lines-count.is)
    ∙ last_behind c.args.width c.args.lines.now (length c.args.lines.now - 1) x (omega arith) (sym c.index-lines-count.is)
