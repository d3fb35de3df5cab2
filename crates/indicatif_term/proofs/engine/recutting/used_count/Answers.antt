use Rattle.std.proofs.Common.{◌≡◌, ◌∙◌, ◌+◌, ◌-◌, ◌++◌, ◌∷◌, [], take, sym, ap, arith}
use Rattle.std.proofs.lemmas.Bool.{ne_eqb}
use Rattle.std.proofs.lemmas.List.{take_more}
use Rattle.indicatif_text.specs.Columns.{glyphs_of}
use Rattle.indicatif_term.specs.Inside.Recutting.{without_spaces}
use Rattle.indicatif_term.proofs.CutCharLemmas.{one_space, one_other}
use Rattle.indicatif_term.proofs.engine.recutting.used_count.Goals as goal

pub loop-used-preserved : goal.loop-used-preserved
loop-used-preserved c =
    let row = c.args.row.now in
    let n = c.loop-used.used - 1 in
    let x = c.index-row-used.result in
    let suc_is : c.loop-used.used ≡ n + 1 = omega arith in
    let next : take c.loop-used.used row ≡ take n row ++ 0x20 ∷ [] =
    ap (λ k. take k row) suc_is ∙ take_more row n x (omega (arith, c.loop-used.invariant.within)) ∙ ap (λ d. take n row ++ d ∷ []) (sym c.index-row-used.is ∙ c.if-row-used-ne32.false) in
    record {
      within = omega (arith, c.loop-used.invariant.within);
      same = sym (one_space (take n row)) ∙ ap (λ xs. without_spaces (glyphs_of xs)) (sym next) ∙ c.loop-used.invariant.same;
    }

pub returns-then-row-used-ne32-clause-used : goal.returns-then-row-used-ne32-clause-used
returns-then-row-used-ne32-clause-used c =
    let row = c.args.row.now in
    let n = c.loop-used.used - 1 in
    let x = c.index-row-used.result in
    let suc_is : c.loop-used.used ≡ n + 1 = omega arith in
    let next : take c.loop-used.used row ≡ take n row ++ x ∷ [] =
    ap (λ k. take k row) suc_is ∙ take_more row n x (omega (arith, c.loop-used.invariant.within)) ∙ ap (λ d. take n row ++ d ∷ []) (sym c.index-row-used.is) in
    ap glyphs_of next ∙ sym (one_other (take n row) x (ne_eqb x 0x20 c.if-row-used-ne32.true)) ∙ ap (λ xs. without_spaces (glyphs_of xs)) (sym next) ∙ c.loop-used.invariant.same
