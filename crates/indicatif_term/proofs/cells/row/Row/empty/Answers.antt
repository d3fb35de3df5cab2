use Rattle.std.proofs.Common.{◌∙◌, length, sym, ap}
use Rattle.indicatif_text.specs.Columns.{blank_row}
use Rattle.indicatif_term.proofs.ShownCellLemmas.{blank_shown, length_shown}
use Rattle.indicatif_term.proofs.cells.row.Row.empty.Goals as goal

pub returns : goal.returns
returns c =
    let r = c.self.inside in
    blank_shown r.columns c.clear-2.new.self.items c.clear.new.self.items c.clear.ensures.items
    ∙ ap blank_row (sym (length_shown r.columns r.joiners.items r.cells.items c.self.invariant.within) ∙ ap length c.self.view_is)
