use Rattle.std.proofs.Common.{◌≡◌, ◌∙◌, ◌+◌, ◌<◌, ◌≤◌, length, ap, refl, arith}
use Rattle.indicatif_term.specs.Inside.Rows.{character_cells}
use Rattle.indicatif_term.specs.Inside.Grids.{screen_of}
use Rattle.indicatif_term.proofs.WholeScreenLemmas.{row_full, next_written, length-written_at, length-character_cells}
use Rattle.indicatif_term.proofs.cells.grid.Grid.put_on_next_row.Goals as goal

pub invariant_of-self-2 : goal.invariant_of-self-2
invariant_of-self-2 c =
    let is = c.self.invariant in
    let s = screen_of c.self.inside in
    let row = c.index_mut-row.result.now in
    let below : s.row + 1 < length s.rows = omega (arith, c.requires.below, ap (λ s. length s.rows) c.self.view_is, ap (λ s. s.row) c.self.view_is) in
    let full : length row ≡ s.columns = row_full s (s.row + 1) row is below c.index_mut-row.ensures.value in
    let within : c.args.columns ≤ s.columns = omega (arith, c.requires.fits, ap (λ s. s.columns) c.self.view_is) in
    let cells = character_cells c.args.c c.args.columns in
    let wide : length cells ≡ c.args.columns = length-character_cells c.args.c c.args.columns c.requires.some in
    next_written s _ c.write.new.self c.args.columns is below refl
    (ap length c.in_ok-write.ensures.written ∙ length-written_at 0 cells row (omega arith) ∙ full) within
