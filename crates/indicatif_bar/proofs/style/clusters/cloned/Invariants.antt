use Rattle.std.proofs.Common.{◌≡◌, take}
use Rattle.indicatif_bar.specs.Inside.Bars.{bytes_of_strings}
use Rattle.indicatif_bar.proofs.style.clusters.cloned.Given as goal

abbrev pub invariant-texts : goal.invariant-texts
invariant-texts l = bytes_of_strings l.all.items ≡ bytes_of_strings (take l.text-index l.texts)
