use Rattle.std.proofs.Common.{◌-◌, ◌≤◌, length, take}
use Rattle.std.specs.Prelude.{All}
use Rattle.std.specs.Int.{IsInRange}
use Rattle.indicatif_term.proofs.cells.run.printable_len.Given as goal

abbrev pub invariant-bytes : goal.invariant-bytes
invariant-bytes l = record {
  printable : All (IsInRange 0x20 0x7E) (take l.count l.bytes);
  fits : l.count ≤ length l.bytes;
  few : l.count ≤ l.most;
}

abbrev pub decreases-bytes : goal.decreases-bytes
decreases-bytes l = length l.bytes - l.count
