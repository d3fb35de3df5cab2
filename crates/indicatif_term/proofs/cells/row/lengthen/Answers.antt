use Rattle.std.proofs.Common.{◌≡◌, ◌∙◌, ◌<◌, ◌++◌, ◌∷◌, [], length, ap, arith, length-append, inl}
use Rattle.indicatif_text.specs.Columns.{Blank}
use Rattle.indicatif_term.specs.Inside.Rows.{whole_row}
use Rattle.indicatif_term.proofs.KeptRowLemmas.{one_more_kept}
use Rattle.indicatif_term.proofs.cells.row.lengthen.Goals as goal

pub loop-cells-preserved : goal.loop-cells-preserved
loop-cells-preserved c =
    let cells = c.loop-cells.cells.items in
    let more : c.push.new.self.items ≡ cells ++ Blank ∷ [] = c.in_ok-push.ensures.items ∙ ap (λ x. cells ++ x ∷ []) c.empty.ensures in
    let longer : length cells < c.args.end = omega (arith, c.loop-cells-test.true, c.len.ensures) in
    record {
      same = λ w h k. ap (whole_row w) more ∙ one_more_kept w cells (omega arith) ∙ c.loop-cells.invariant.same w h k;
      within = inl (omega (arith, ap length more, length-append cells (Blank ∷ [])));
    }
