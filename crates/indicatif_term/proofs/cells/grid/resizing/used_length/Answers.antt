use Rattle.std.proofs.Common.{◌≡◌, ◌∙◌, ◌-◌, suc, false, take, drop, sym, ap, arith}
use Rattle.std.specs.List.{list_all}
use Rattle.indicatif_term.specs.Pictures.{is_blank}
use Rattle.indicatif_term.proofs.RowsPutLemmas.{last_used, none_used}
use Rattle.indicatif_term.proofs.cells.grid.resizing.used_length.Goals as goal

pub returns-then-not-is_blank-clause-used : goal.returns-then-not-is_blank-clause-used
returns-then-not-is_blank-clause-used c =
    let rows = c.args.rows.now in
    let n = c.loop-used.used - 1 in
    let next : c.loop-used.used ≡ suc n = omega arith in
    let row = c.index-rows-used.result in
    let shown : list_all is_blank row ≡ false = cc (c.is_blank.ensures, c.if-not-is_blank.true) in
    ap (λ k. take k rows) next
    ∙ last_used rows n row (omega (arith, c.loop-used.invariant.within)) c.index-rows-used.is shown (ap (λ k. list_all (list_all is_blank) (drop k rows)) (sym next) ∙ c.loop-used.invariant.blank)

pub returns-clause-used : goal.returns-clause-used
returns-clause-used c =
    let none : c.loop-used.used ≡ 0 = omega arith in
    sym (none_used c.args.rows.now (ap (λ k. list_all (list_all is_blank) (drop k c.args.rows.now)) (sym none) ∙ c.loop-used.invariant.blank))
