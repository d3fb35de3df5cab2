use Rattle.std.proofs.Common.{◌≡◌, ◌∙◌, ◌+◌, ◌≤◌, length, take, ap, arith}
use Rattle.indicatif_term.specs.Screen.{written_at}
use Rattle.indicatif_term.specs.Inside.Scanners.{performed_all}
use Rattle.indicatif_term.specs.Inside.Grids.{screen_of}
use Rattle.indicatif_term.specs.Inside.Runs.{run_chars, narrow_cells, puts}
use Rattle.indicatif_term.proofs.RunLemmas.{run_keeps_whole, run_is_put}
use Rattle.indicatif_term.proofs.cells.grid.Grid.put_run.Goals as goal

fits : (c : goal.After-self-2-1) → c.self.inside.column + length (run_chars c.args.run) ≤ c.self.inside.columns
fits c = omega (arith, c.requires.fits, ap (λ s. s.column) c.self.view_is, ap (λ s. s.columns) c.self.view_is)

written : (c : goal.After-self-2-1) → c.write_run.new.self ≡ written_at c.self.inside.column (narrow_cells (take c.in_ok-written.written (run_chars c.args.run))) c.index_mut-row.result.now
written c = c.in_ok-written.ensures.written ∙ ap (λ n. written_at n (narrow_cells (take c.in_ok-written.written (run_chars c.args.run))) c.index_mut-row.result.now) c.from-at.ensures

pub invariant_of-self-2 : goal.invariant_of-self-2
invariant_of-self-2 c =
    let e = c.in_ok-written.ensures in
    run_keeps_whole (screen_of c.self.inside) (run_chars c.args.run) c.in_ok-written.written c.index_mut-row.result.now c.write_run.new.self c.self.invariant e.some e.within c.requires.narrow (fits c)
    c.index_mut-row.ensures.value (written c)

pub returns-clause-ok : goal.returns-clause-ok
returns-clause-ok c =
    let e = c.in_ok-written.ensures in
    run_is_put (screen_of c.self.inside) (run_chars c.args.run) c.in_ok-written.written c.index_mut-row.result.now c.write_run.new.self c.self.invariant e.some e.within c.requires.narrow (fits c)
    c.index_mut-row.ensures.value (written c)
    ∙ ap (performed_all (puts (take c.in_ok-written.written (run_chars c.args.run)))) c.self.view_is
