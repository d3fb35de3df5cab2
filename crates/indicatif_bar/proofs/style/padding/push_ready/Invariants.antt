use Rattle.std.proofs.Common.{◌≡◌, ◌≤◌, ◌-◌, ◌++◌, string_bytes}
use Rattle.indicatif_bar.specs.Layout.{times}
use Rattle.indicatif_bar.proofs.style.padding.push_ready.Given as goal

abbrev pub invariant-runs : goal.invariant-runs
invariant-runs l = record {
  texts : string_bytes l.out ≡ string_bytes l.fn.out ++ times (l.count - l.left) l.text;
  within : l.left ≤ l.count;
}

abbrev pub decreases-runs : goal.decreases-runs
decreases-runs l = l.left
