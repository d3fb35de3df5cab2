use Rattle.std.proofs.Common.{◌≡◌, ◌+◌, ◌-◌, ◌≤◌, ◌++◌, replicate}
use Rattle.std.specs.Vec.{vec_len, vec_capacity}
use Rattle.indicatif_term.specs.Inside.Runs.{narrow_cells}
use Rattle.indicatif_term.proofs.cells.run.append_repeated.Given as goal

abbrev pub invariant-loop-turn : goal.invariant-loop-turn
invariant-loop-turn l = record {
  appended : l.cells.items ≡ l.fn.cells.items ++ narrow_cells (replicate l._turn l.c);
  room : vec_len l.cells + (l.count - l._turn) ≤ vec_capacity l.cells;
}
