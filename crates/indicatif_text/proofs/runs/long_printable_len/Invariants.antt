use Rattle.std.proofs.Common.{◌-◌, ◌≤◌, length, take}
use Rattle.std.specs.Prelude.{All}
use Rattle.indicatif_text.specs.Inside.Runs.{IsPrintable}
use Rattle.indicatif_text.proofs.runs.long_printable_len.Given as goal

abbrev pub invariant-bytes : goal.invariant-bytes
invariant-bytes l = record {
  printable : All IsPrintable (take l.count l.bytes);
  fits : l.count ≤ length l.bytes;
}

abbrev pub decreases-bytes : goal.decreases-bytes
decreases-bytes l = length l.bytes - l.count
