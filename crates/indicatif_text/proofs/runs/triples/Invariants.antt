use Rattle.std.proofs.Common.{◌≡◌, ◌*◌, ◌≤◌, ◌-◌, drop, length}
use Rattle.indicatif_text.specs.Inside.Runs.{times_then}
use Rattle.indicatif_text.proofs.runs.triples.Given as goal

abbrev pub invariant-bytes : goal.invariant-bytes
invariant-bytes l = record {
  repeats : l.bytes ≡ times_then l.count l.unit (drop l.at l.bytes);
  place : l.at ≡ 3 * l.count;
  fits : l.at ≤ length l.bytes;
}

abbrev pub decreases-bytes : goal.decreases-bytes
decreases-bytes l = length l.bytes - l.at
