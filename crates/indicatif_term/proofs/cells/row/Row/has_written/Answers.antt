use Rattle.std.proofs.Common.{◌≡◌, ◌∙◌, true, take, sym, ap}
use Rattle.std.proofs.lemmas.List.{take_all}
use Rattle.std.proofs.lemmas.List.Folds.{list_any_at}
use Rattle.std.specs.List.{list_any}
use Rattle.indicatif_term.specs.Pictures.{has_written, is_written}
use Rattle.indicatif_term.proofs.ShownCellLemmas.{has_written_shown}
use Rattle.indicatif_term.proofs.cells.row.Row.has_written.Goals as goal

pub returns : goal.returns
returns c =
    let r = c.self.inside in
    let all : take c.loop-cell.cell-index c.deref-cell-items.result.now ≡ c.deref-cell-items.result.now = take_all _ _ c.loop-cell-test.false in
    sym c.loop-cell.invariant ∙ ap (list_any is_written) (all ∙ c.deref-cell-items.ensures.value) ∙ has_written_shown r.columns r.joiners.items r.cells.items ∙ ap has_written c.self.view_is

pub returns-then-is_written : goal.returns-then-is_written
returns-then-is_written c =
    let r = c.self.inside in
    let x = c.cell-item.result in
    let some : list_any is_written c.deref-cell-items.result.now ≡ true =
    list_any_at is_written c.deref-cell-items.result.now c.loop-cell.cell-index x c.loop-cell-test.true (ap is_written (sym c.cell-item.is) ∙ sym c.is_written.ensures ∙ c.if-is_written.true) in
    sym some ∙ ap (list_any is_written) c.deref-cell-items.ensures.value ∙ has_written_shown r.columns r.joiners.items r.cells.items ∙ ap has_written c.self.view_is
