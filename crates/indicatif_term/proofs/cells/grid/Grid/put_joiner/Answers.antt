use Rattle.std.proofs.Common.{◌≡◌, ◌∙◌, length, refl}
use Rattle.indicatif_term.specs.Inside.Grids.{screen_of}
use Rattle.indicatif_term.proofs.WholeScreenLemmas.{cursor_full, row_written, length-joined_or}
use Rattle.indicatif_term.proofs.cells.grid.Grid.put_joiner.Goals as goal

pub invariant_of-self : goal.invariant_of-self
invariant_of-self c =
    let is = c.self.invariant in
    let row = c.index_mut-row.result.now in
    let full : length row ≡ c.self.inside.columns = cursor_full (screen_of c.self.inside) row is c.index_mut-row.ensures.value in
    row_written (screen_of c.self.inside) _ c.join.new.self c.self.inside.column is refl
    (length-joined_or c.join.result _ c.args.joiner row c.join.new.self c.join.ensures.joined c.join.ensures.err ∙ full) is.in_columns
