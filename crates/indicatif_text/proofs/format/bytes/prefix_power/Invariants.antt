use Rattle.std.proofs.Common.{◌≡◌, ◌^◌, ◌≤◌, ◌⊎◌, ◌-◌}
use Rattle.indicatif_text.proofs.format.bytes.prefix_power.Given as goal

abbrev pub invariant-loop-exponent : goal.invariant-loop-exponent
invariant-loop-exponent l = record {
  size_is : l.size ≡ l.base ^ l.exponent;
  first : 1 ≤ l.exponent;
  last : l.exponent ≤ 6;
  reached : (l.exponent ≡ 1) ⊎ (l.size ≤ l.n);
}

abbrev pub decreases-loop-exponent : goal.decreases-loop-exponent
decreases-loop-exponent l = 6 - l.exponent
