use Rattle.std.proofs.Common.{◌≡◌, ◌+◌, ◌-◌, ◌≤◌, ◌++◌, length, take}
use Rattle.std.specs.Vec.{vec_len, vec_capacity}
use Rattle.indicatif_term.specs.Inside.Runs.{narrow_cells}
use Rattle.indicatif_term.proofs.cells.run.append_ascii.Given as goal

abbrev pub invariant-loop-byte : goal.invariant-loop-byte
invariant-loop-byte l = record {
  appended : l.cells.items ≡ l.fn.cells.items ++ narrow_cells (take l.byte-index l.text);
  room : vec_len l.cells + (length l.text - l.byte-index) ≤ vec_capacity l.cells;
}
