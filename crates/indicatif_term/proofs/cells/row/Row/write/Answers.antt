use Rattle.std.proofs.Common.{◌≡◌, ◌∙◌, ◌-◌, ◌+◌, ◌≤◌, ◌++◌, ◌∷◌, [], length, ap, sym, refl, arith, length-append}
use Rattle.std.specs.Vec.{with_items}
use Rattle.std.proofs.lemmas.List.{length-replicate}
use Rattle.indicatif_text.specs.Columns.{Written, Continued}
use Rattle.indicatif_term.specs.Screen.{written_at}
use Rattle.indicatif_term.specs.Inside.Rows.{whole_row, emptied_on, character_cells}
use Rattle.indicatif_term.proofs.RowEditLemmas.{in_turn, whole_again}
use Rattle.indicatif_term.proofs.KeptRowLemmas.{whole_written, whole_appended}
use Rattle.indicatif_term.proofs.ShownCellLemmas.{row_written_shown, keeps_written, keeps_same, keeps_again, length_shown}
use Rattle.indicatif_term.proofs.cells.row.Row.write.Goals as goal

-- ---- a cell put behind the others

more : (c : goal.In_ok-push) → c.push.new.self.items ≡ c.self.inside.cells.items ++ Written (record { base = c.args.c; joiners = [] }) ∷ []
more c = c.in_ok-push.ensures.items ∙ ap (λ x. c.self.inside.cells.items ++ x ∷ []) c.plain.ensures

appended : (c : goal.In_ok-push) → whole_row c.self.inside.columns c.push.new.self.items
    ≡ written_at c.args.at (character_cells c.args.c c.args.columns) (whole_row c.self.inside.columns c.self.inside.cells.items)
appended c =
    let w = c.self.inside.columns in
    let kept = c.self.inside.cells.items in
    let cells = character_cells c.args.c c.args.columns in
    let one : cells ≡ Written (record { base = c.args.c; joiners = [] }) ∷ [] = ap (character_cells c.args.c) c.if-columns-eq1.true in
    let last : length kept ≡ c.args.at = omega (arith, c.if-at-len.true, c.len.ensures) in
    ap (whole_row w) (more c ∙ ap (λ xs. kept ++ xs) (sym one)) ∙ whole_appended w cells kept ∙ ap (λ n. written_at n cells (whole_row w kept)) last

pub invariant_of-self : goal.invariant_of-self
invariant_of-self c = record {
  within = omega (arith, ap length c.in_err-push.ensures.items, c.self.invariant.within);
  leaves = keeps_again c.self.inside.joiners.items _ c.self.inside.cells.items _ c.self.invariant.leaves refl c.in_err-push.ensures.items;
}

pub invariant_of-self-then-at-len : goal.invariant_of-self-then-at-len
invariant_of-self-then-at-len c =
    let r = c.self.inside in
    let fits : c.args.at + c.args.columns ≤ r.columns = omega (arith, c.requires.fits, ap length c.self.view_is, length_shown r.columns r.joiners.items r.cells.items c.self.invariant.within) in
    record {
      within = omega (arith, ap length (more c), length-append r.cells.items (Written (record { base = c.args.c; joiners = [] }) ∷ []), c.if-at-len.true, c.len.ensures, c.if-columns-eq1.true);
      leaves = keeps_written r.columns c.args.at c.args.c c.args.columns r.joiners.items r.cells.items _ c.self.invariant.leaves (appended c);
    }

pub returns-then-at-len-clause-written : goal.returns-then-at-len-clause-written
returns-then-at-len-clause-written c =
    let r = c.self.inside in
    row_written_shown r.columns c.args.at c.args.c c.args.columns r.joiners.items r.cells.items _ c.args.self.now c.self.view_is (appended c)

-- ---- cells written over

pub invariant_of-self-in_err-lengthen : goal.invariant_of-self-in_err-lengthen
invariant_of-self-in_err-lengthen c =
    let r = c.self.inside in
    let fits : c.args.at + c.args.columns ≤ r.columns = omega (arith, c.requires.fits, ap length c.self.view_is, length_shown r.columns r.joiners.items r.cells.items c.self.invariant.within) in
    record {
      within = omega (arith, c.lengthen.ensures.within, c.self.invariant.within);
      leaves = keeps_same r.columns r.joiners.items r.cells.items _ c.self.invariant.leaves (c.lengthen.ensures.same r.columns fits c.self.invariant.within);
    }

back : (c : goal.After-self-1) → (with_items c.lengthen.new.cells c.overwrite.new.cells).items ≡ c.overwrite.new.cells
back c =
    let lent = c.deref_mut-cells.ensures in
    whole_again _ c.overwrite.new.cells c.lengthen.new.cells.items
    (omega (arith, c.overwrite.auto.cells, c.empty_on.auto.cells, c.empty_before.auto.cells, lent.len)) (omega (arith, ap length lent.value, lent.len))

room : (c : goal.After-self-1) → c.args.at + c.args.columns ≤ c.self.inside.columns
room c =
    let r = c.self.inside in
    omega (arith, c.requires.fits, ap length c.self.view_is, length_shown r.columns r.joiners.items r.cells.items c.self.invariant.within)

over : (c : goal.After-self-1) → whole_row c.self.inside.columns (with_items c.lengthen.new.cells c.overwrite.new.cells).items
    ≡ written_at c.args.at (character_cells c.args.c c.args.columns) (whole_row c.self.inside.columns c.self.inside.cells.items)
over c =
    let w = c.self.inside.columns in
    let kept = c.lengthen.new.cells.items in
    let row = c.deref_mut-cells.result.now in
    let cells = character_cells c.args.c c.args.columns in
    let wide : c.args.columns ≡ length cells = omega (arith, length-replicate (c.args.columns - 1) Continued, c.requires.some) in
    let is : row ≡ kept = c.deref_mut-cells.ensures.value in
    let fits : c.args.at + length cells ≤ length kept = omega (arith, c.in_ok-lengthen.ensures.enough) in
    ap (whole_row w) (back c ∙ c.overwrite.ensures
    ∙ in_turn row c.empty_before.new.cells c.empty_on.new.cells cells c.args.at (omega (arith, ap length is)) c.empty_before.ensures
    (c.empty_on.ensures ∙ ap (λ k. emptied_on (c.args.at + k) c.empty_before.new.cells) wide)
    ∙ ap (written_at c.args.at cells) is)
    ∙ whole_written w c.args.at cells kept (omega (arith, c.requires.some)) fits
    ∙ ap (written_at c.args.at cells) (c.lengthen.ensures.same w (room c) c.self.invariant.within)

pub invariant_of-self-2 : goal.invariant_of-self-2
invariant_of-self-2 c =
    let r = c.self.inside in
    let lent = c.deref_mut-cells.ensures in
    let same : length (with_items c.lengthen.new.cells c.overwrite.new.cells).items ≡ length c.lengthen.new.cells.items =
    omega (arith, ap length (back c), c.overwrite.auto.cells, c.empty_on.auto.cells, c.empty_before.auto.cells, ap length lent.value) in
    record {
      within = omega (arith, room c, same, c.lengthen.ensures.within, c.self.invariant.within);
      leaves = keeps_written r.columns c.args.at c.args.c c.args.columns r.joiners.items r.cells.items _ c.self.invariant.leaves (over c);
    }

pub returns-clause-written : goal.returns-clause-written
returns-clause-written c =
    let r = c.self.inside in
    row_written_shown r.columns c.args.at c.args.c c.args.columns r.joiners.items r.cells.items _ c.args.self.now c.self.view_is (over c)
