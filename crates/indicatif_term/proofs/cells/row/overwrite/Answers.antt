use Rattle.std.proofs.Common.{◌≡◌, ◌∙◌, ◌-◌, ◌+◌, [], ◌∷◌, replicate, set, sym, ap, arith}
use Rattle.std.proofs.lemmas.List.{length-replicate, replicate_more}
use Rattle.indicatif_text.specs.Columns.{Written, Continued}
use Rattle.indicatif_term.specs.Inside.Rows.{overwritten, character_cells}
use Rattle.indicatif_term.proofs.RowEditLemmas.{one_written, one_more_written}
use Rattle.indicatif_term.proofs.cells.row.overwrite.Goals as goal

pub loop-column-init : goal.loop-column-init
loop-column-init c =
    let one : (c.args.at + 1) - c.args.at ≡ 1 = omega arith in
    ap (set c.args.cells.now c.args.at) c.plain.ensures ∙ one_written c.args.cells.now c.args.at _ (omega (arith, c.requires.some, c.requires.fits))
    ∙ ap (λ k. overwritten c.args.at (character_cells c.args.c k) c.args.cells.now) (sym one)

pub loop-column-preserved : goal.loop-column-preserved
loop-column-preserved c =
    let k = c.loop-column.column - c.args.at in
    let m = k - 1 in
    let e : (c.loop-column.column + 1) - c.args.at - 1 ≡ m + 1 = omega (arith, c.loop-column.auto.column) in
    ap (set c.loop-column.cells c.loop-column.column) c.continued.ensures
    ∙ one_more_written c.args.cells.now c.loop-column.cells (character_cells c.args.c k) c.args.at c.loop-column.column Continued c.loop-column.invariant
    (omega (arith, length-replicate m Continued, c.loop-column.auto.column)) (omega (arith, c.requires.fits, c.loop-column-test.true))
    ∙ ap (λ cells. overwritten c.args.at (Written (record { base = c.args.c; joiners = [] }) ∷ cells) c.args.cells.now) (replicate_more m Continued ∙ ap (λ n. replicate n Continued) (sym e))
