use Rattle.std.proofs.Common.{◌≡◌, map, take}
use Rattle.indicatif_bar.specs.Inside.Bars.{bytes_of_strings}
use Rattle.indicatif_bar.proofs.style.clusters.copied.Given as goal

abbrev pub invariant-texts : goal.invariant-texts
invariant-texts l = bytes_of_strings l.all.items ≡ map (λ text. text.now) (take l.text-index l.texts)
