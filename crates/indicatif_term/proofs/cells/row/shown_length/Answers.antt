use Rattle.std.proofs.Common.{◌≡◌, ◌∙◌, ◌-◌, ◌+◌, ◌<◌, suc, true, false, length, get_or, take, drop, map, sym, ap, arith}
use Rattle.std.specs.List.{list_all}
use Rattle.std.proofs.Math.ListN.{get_or-map}
use Rattle.std.proofs.lemmas.List.{length-map}
use Rattle.indicatif_term.specs.Pictures.{is_blank}
use Rattle.indicatif_term.specs.Inside.Rows.{cell_shown}
use Rattle.indicatif_term.proofs.RowEditLemmas.{trimmed_last, trimmed-all, blank_more}
use Rattle.indicatif_term.proofs.cells.row.shown_length.Goals as goal

pub returns-then-not-is_blank-clause-shown : goal.returns-then-not-is_blank-clause-shown
returns-then-not-is_blank-clause-shown c =
    let f = cell_shown c.args.joiners.now in
    let row = map f c.args.cells.now in
    let n = c.loop-shown.shown - 1 in
    let next : c.loop-shown.shown ≡ suc n = omega arith in
    let x = c.index-cells-shown.result in
    let at : f x ≡ get_or row n (f x) = ap f c.index-cells-shown.is ∙ sym (get_or-map f c.args.cells.now n x) in
    let within : n < length row = omega (arith, c.loop-shown.invariant.within, length-map c.args.cells.now f) in
    let shown : is_blank (f x) ≡ false = sym c.is_blank.ensures ∙ c.if-not-is_blank.true in
    ap (λ k. take k row) next
    ∙ trimmed_last row n (f x) within at shown (ap (λ k. list_all is_blank (drop k row)) (sym next) ∙ c.loop-shown.invariant.blank)

pub loop-shown-preserved : goal.loop-shown-preserved
loop-shown-preserved c =
    let f = cell_shown c.args.joiners.now in
    let row = map f c.args.cells.now in
    let n = c.loop-shown.shown - 1 in
    let next : c.loop-shown.shown ≡ n + 1 = omega arith in
    let x = c.index-cells-shown.result in
    let at : f x ≡ get_or row n (f x) = ap f c.index-cells-shown.is ∙ sym (get_or-map f c.args.cells.now n x) in
    let within : n < length row = omega (arith, c.loop-shown.invariant.within, length-map c.args.cells.now f) in
    let blank : is_blank (f x) ≡ true = sym c.is_blank.ensures ∙ c.if-not-is_blank.false in
    record {
      within = omega (arith, c.loop-shown.invariant.within);
      blank = blank_more row n (f x) within at blank (ap (λ k. list_all is_blank (drop k row)) (sym next) ∙ c.loop-shown.invariant.blank);
    }

pub returns-clause-shown : goal.returns-clause-shown
returns-clause-shown c =
    let row = map (cell_shown c.args.joiners.now) c.args.cells.now in
    let none : c.loop-shown.shown ≡ 0 = omega arith in
    sym (trimmed-all row (ap (λ k. list_all is_blank (drop k row)) (sym none) ∙ c.loop-shown.invariant.blank))
