use Rattle.std.proofs.Common.{◌≡◌, ◌∙◌, ◌-◌, ◌+◌, set, false, sym, ap, arith}
use Rattle.indicatif_term.specs.Screen.{is_continued}
use Rattle.indicatif_term.specs.Inside.Rows.{emptied_back}
use Rattle.indicatif_term.proofs.RowEditLemmas.{back_last}
use Rattle.indicatif_term.proofs.cells.row.empty_back.Goals as goal

pub returns-then-not-continued : goal.returns-then-not-continued
returns-then-not-continued c =
    let cells = c.loop-left.cells in
    let n = c.loop-left.left - 1 in
    let x = c.index-cells-left.result in
    let not_continued : is_continued x ≡ false = ap is_continued c.index-cells-left.is ∙ sym c.is_continued-continued.ensures ∙ c.if-not-continued.true in
    let next : n + 1 ≡ c.loop-left.left = omega arith in
    ap (set cells n) c.empty.ensures ∙ sym (back_last cells n x (omega arith) c.index-cells-left.is not_continued)
    ∙ ap (λ m. emptied_back m cells) next ∙ sym c.loop-left.invariant.is
