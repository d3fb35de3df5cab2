use Rattle.std.proofs.Common.{◌≡◌, ◌∙◌, ◌+◌, ◌≤◌, ◌++◌, ◌∷◌, [], length, ap, arith}
use Rattle.std.proofs.lemmas.List.{length-replicate}
use Rattle.indicatif_text.specs.Columns.{Blank}
use Rattle.indicatif_term.specs.Screen.{Screen, put_here, line_feed, written_at}
use Rattle.indicatif_term.specs.Inside.Rows.{character_cells}
use Rattle.indicatif_term.specs.Inside.Grids.{screen_of}
use Rattle.indicatif_term.proofs.WholeScreenLemmas.{new_written, put_on_new, length-written_at, length-character_cells}
use Rattle.indicatif_term.proofs.cells.grid.Grid.put_on_new_row.Goals as goal

pub invariant_of-self-2 : goal.invariant_of-self-2
invariant_of-self-2 c =
    let s = screen_of c.self.inside in
    let cells = character_cells c.args.c c.args.columns in
    let wide : length cells ≡ c.args.columns = length-character_cells c.args.c c.args.columns c.requires.some in
    let within : c.args.columns ≤ s.columns = omega (arith, c.requires.fits, ap (λ s. s.columns) c.self.view_is) in
    let blank : length c.blank-row.result ≡ s.columns = ap length c.blank-row.ensures ∙ length-replicate s.columns Blank in
    let full : length c.write.new.self ≡ s.columns = ap length c.in_ok-write.ensures.written ∙ length-written_at 0 cells c.blank-row.result (omega arith) ∙ blank in
    let last : length s.rows ≤ s.row + 1 = omega (arith, c.requires.last, ap (λ s. length s.rows) c.self.view_is, ap (λ s. s.row) c.self.view_is) in
    new_written s _ c.write.new.self c.args.columns c.self.invariant last c.in_ok-push.ensures.items full within

pub returns-clause-ok : goal.returns-clause-ok
returns-clause-ok c =
    let s = screen_of c.self.inside in
    let cells = character_cells c.args.c c.args.columns in
    let last : s.row + 1 ≡ length s.rows = omega (arith, c.requires.last, c.self.invariant.in_rows, ap (λ s. length s.rows) c.self.view_is, ap (λ s. s.row) c.self.view_is) in
    let written = c.in_ok-write.ensures.written ∙ ap (written_at 0 cells) c.blank-row.ensures in
    put_on_new s c.args.c c.args.columns _ last c.requires.columns (c.in_ok-push.ensures.items ∙ ap (λ r. s.rows ++ r ∷ []) written)
    ∙ ap (λ (t : Screen). put_here (record { base = c.args.c; joiners = [] }) c.args.columns (line_feed (record t { column = 0 }))) c.self.view_is
