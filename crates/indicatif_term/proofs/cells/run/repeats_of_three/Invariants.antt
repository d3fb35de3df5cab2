use Rattle.std.proofs.Common.{◌≡◌, ◌*◌, ◌-◌, ◌<◌, ◌≤◌, length, take}
use Rattle.std.specs.List.{repeat}
use Rattle.indicatif_term.proofs.cells.run.repeats_of_three.Given as goal

abbrev pub invariant-bytes : goal.invariant-bytes
invariant-bytes l = record {
  some : 0 < l.count;
  few : l.count ≤ l.most;
  fits : 3 * l.count ≤ length l.bytes;
  repeats : take (3 * l.count) l.bytes ≡ repeat l.count (take 3 l.bytes);
}

abbrev pub decreases-bytes : goal.decreases-bytes
decreases-bytes l = l.most - l.count
