use Rattle.std.proofs.Common.{◌≡◌, ◌∙◌, ◌+◌, ◌≤◌, length, ap, refl, arith}
use Rattle.indicatif_term.specs.Inside.Rows.{character_cells}
use Rattle.indicatif_term.specs.Inside.Grids.{screen_of}
use Rattle.indicatif_term.proofs.WholeScreenLemmas.{cursor_full, row_written, length-written_at, length-character_cells}
use Rattle.indicatif_term.proofs.cells.grid.Grid.put_here.Goals as goal

pub invariant_of-self-2 : goal.invariant_of-self-2
invariant_of-self-2 c =
    let is = c.self.invariant in
    let row = c.index_mut-row.result.now in
    let full : length row ≡ c.self.inside.columns = cursor_full (screen_of c.self.inside) row is c.index_mut-row.ensures.value in
    let within : c.self.inside.column + c.args.columns ≤ c.self.inside.columns = omega (arith, c.requires.fits, ap (λ s. s.column) c.self.view_is, ap (λ s. s.columns) c.self.view_is) in
    let cells = character_cells c.args.c c.args.columns in
    let wide : length cells ≡ c.args.columns = length-character_cells c.args.c c.args.columns c.requires.some in
    row_written (screen_of c.self.inside) _ c.write.new.self (c.self.inside.column + c.args.columns) is refl
    (ap length c.in_ok-write.ensures.written ∙ length-written_at c.from-at.result cells row (omega arith) ∙ full) within
