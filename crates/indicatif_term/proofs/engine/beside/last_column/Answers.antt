use Rattle.std.proofs.Common.{◌-◌, ◌∙◌, ap, sym, arith, length, Some}
use Rattle.std.specs.Prelude.{option_map}
use Rattle.indicatif_term.specs.Inside.Changing.{PlacedLine}
use Rattle.indicatif_term.specs.declared.engine.remembered.StandingLine.{StandingLine}
use Rattle.indicatif_term.proofs.RememberedLemmas.{last_line}
use Rattle.indicatif_term.proofs.engine.beside.last_column.Goals as goal

pub returns : goal.returns
returns c =
    let ls = c.args.lines.now in
    let x = c.index-lines-count.result in
    ap (λ (l : StandingLine). Some l.last) (sym c.index-lines-count.is)
    ∙ sym (ap (option_map (λ (p : PlacedLine). p.last)) (last_line ls (length ls - 1) x (omega arith) (sym c.index-lines-count.is)))
