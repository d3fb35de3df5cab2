use Rattle.std.proofs.Common.{◌≡◌, take}
use Rattle.indicatif_bar.specs.Trackers.{entries}
use Rattle.indicatif_bar.proofs.style.builders.cloned_keys.Given as goal

abbrev pub invariant-keys : goal.invariant-keys
invariant-keys g l = entries l.all.items ≡ entries (take l.entry-index l.keys)
