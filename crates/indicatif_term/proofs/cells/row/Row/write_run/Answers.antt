use Rattle.std.proofs.Common.{◌≡◌, ◌∙◌, [], length, take, ap, sym, refl, arith, length-append}
use Rattle.std.proofs.lemmas.List.{length-map, take_all}
use Rattle.indicatif_text.specs.Columns.{Written}
use Rattle.indicatif_term.specs.Screen.{written_at}
use Rattle.indicatif_term.specs.Inside.Rows.{whole_row}
use Rattle.indicatif_term.specs.Inside.Runs.{run_chars, narrow_cells}
use Rattle.indicatif_term.proofs.KeptRowLemmas.{whole_appended}
use Rattle.indicatif_term.proofs.ShownCellLemmas.{cells_written_shown, narrow_shown, keeps_cells, keeps_again, length_shown}
use Rattle.indicatif_term.proofs.cells.row.Row.write_run.Goals as goal

pub invariant_of-self : goal.invariant_of-self
invariant_of-self c = record {
  within = omega (arith, ap length c.in_err-append_to.ensures.err, c.self.invariant.within);
  leaves = keeps_again c.self.inside.joiners.items _ c.self.inside.cells.items _ c.self.invariant.leaves refl c.in_err-append_to.ensures.err;
}

appended : (c : goal.After-len-then-at-len) → whole_row c.self.inside.columns c.append_to.new.cells.items
    ≡ written_at c.args.at (narrow_cells (run_chars c.args.run)) (whole_row c.self.inside.columns c.self.inside.cells.items)
appended c =
    let w = c.self.inside.columns in
    let kept = c.self.inside.cells.items in
    let cells = narrow_cells (run_chars c.args.run) in
    let last : length kept ≡ c.args.at = omega (arith, c.if-at-len.true, c.len.ensures) in
    ap (whole_row w) c.in_ok-append_to.ensures.appended ∙ whole_appended w cells kept ∙ ap (λ n. written_at n cells (whole_row w kept)) last

pub invariant_of-self-then-at-len : goal.invariant_of-self-then-at-len
invariant_of-self-then-at-len c =
    let r = c.self.inside in
    let run = run_chars c.args.run in
    record {
      within = omega (
        arith,
        ap length c.in_ok-append_to.ensures.appended,
        length-append r.cells.items (narrow_cells run),
        length-map run (λ c. Written (record { base = c; joiners = [] })),
        c.if-at-len.true,
        c.len.ensures,
        c.requires.fits,
        ap length c.self.view_is,
        length_shown r.columns r.joiners.items r.cells.items c.self.invariant.within,
      );
      leaves = keeps_cells r.columns c.args.at r.joiners.items (narrow_cells run) r.cells.items _ (λ m. narrow_shown m run) c.self.invariant.leaves (appended c);
    }

pub returns-then-at-len-clause-written : goal.returns-then-at-len-clause-written
returns-then-at-len-clause-written c =
    let r = c.self.inside in
    let run = run_chars c.args.run in
    let all : take c.len-then-at-len.result run ≡ run = take_all c.len-then-at-len.result run (omega (arith, c.len-then-at-len.ensures)) in
    cells_written_shown r.columns c.args.at r.joiners.items (narrow_cells run) r.cells.items _ c.args.self.now (narrow_shown r.joiners.items run) c.self.view_is (appended c)
    ∙ ap (λ cs. written_at c.args.at (narrow_cells cs) c.args.self.now) (sym all)
