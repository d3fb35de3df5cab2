use Rattle.std.proofs.Common.{◌-◌, ◌≤◌, length, take}
use Rattle.std.specs.Prelude.{All}
use Rattle.indicatif_text.specs.Inside.Runs.{IsPrintable}
use Rattle.indicatif_text.proofs.runs.blocks_len.Given as goal

abbrev pub invariant-whole : goal.invariant-whole
invariant-whole l = record {
  printable : All IsPrintable (take l.count l.bytes);
  fits : l.count ≤ length l.bytes;
}

abbrev pub decreases-whole : goal.decreases-whole
decreases-whole l = length l.bytes - l.count
