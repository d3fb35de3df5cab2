use Rattle.std.proofs.Common.{◌≡◌, ◌≤◌, ◌<◌, ◌-◌, ◌++◌, string_bytes}
use Rattle.indicatif_bar.specs.Layout.{times}
use Rattle.indicatif_bar.proofs.style.padding.push_repeated.Given as goal

abbrev pub invariant-times : goal.invariant-times
invariant-times l = record {
  texts : string_bytes l.out ≡ string_bytes l.fn.out ++ times l.done l.text;
  begun : 0 < l.done;
  within : l.done ≤ l.count;
}

abbrev pub decreases-times : goal.decreases-times
decreases-times l = l.count - l.done
