use Rattle.std.proofs.Common.{◌≡◌, ◌∙◌, ◌-◌, suc, true, take, drop, sym, ap, arith}
use Rattle.std.specs.List.{list_any}
use Rattle.indicatif_term.specs.Pictures.{has_written}
use Rattle.indicatif_term.proofs.RowTextLemmas.{written_last, written_rows-none}
use Rattle.indicatif_term.proofs.cells.grid.written_length.Goals as goal

pub returns-then-has_written-clause-written : goal.returns-then-has_written-clause-written
returns-then-has_written-clause-written c =
    let rows = c.args.rows.now in
    let n = c.loop-written.written - 1 in
    let next : c.loop-written.written ≡ suc n = omega arith in
    let r = c.index-rows-written.result in
    let is : has_written r ≡ true = cc (c.index-rows-written.is, c.has_written.ensures, c.if-has_written.true) in
    ap (λ k. take k rows) next
    ∙ written_last rows n r (omega (arith, c.loop-written.invariant.within)) c.index-rows-written.is is (ap (λ k. list_any has_written (drop k rows)) (sym next) ∙ c.loop-written.invariant.blank)

pub returns-clause-written : goal.returns-clause-written
returns-clause-written c =
    let none : c.loop-written.written ≡ 0 = omega arith in
    sym (written_rows-none c.args.rows.now (ap (λ k. list_any has_written (drop k c.args.rows.now)) (sym none) ∙ c.loop-written.invariant.blank))
