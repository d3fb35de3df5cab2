use Rattle.std.proofs.Common.{◌≡◌, ◌++◌, ◌≤◌, length, drop, reverse, encode_utf8_all, string_bytes}
use Rattle.indicatif_term.proofs.cells.joiners.push_reversed.Given as goal

abbrev pub invariant-loop-left : goal.invariant-loop-left
invariant-loop-left l = record {
  within : l.left ≤ length l.characters;
  pushed : string_bytes l.out ≡ string_bytes l.initial.out ++ encode_utf8_all (reverse (drop l.left l.characters));
}

abbrev pub decreases-loop-left : goal.decreases-loop-left
decreases-loop-left l = l.left
