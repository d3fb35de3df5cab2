use Rattle.std.proofs.Common.{◌≡◌, map}
use Rattle.indicatif_bar.specs.Inside.Bars.{bytes_of_strings}
use Rattle.indicatif_bar.proofs.style.clusters.clusters_of.Given as goal

abbrev pub invariant-loop-cluster : goal.invariant-loop-cluster
invariant-loop-cluster l = bytes_of_strings l.all.items ≡ map (λ x. x.now) l.yielded
