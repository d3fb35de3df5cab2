use Rattle.std.proofs.Common.{◌≡◌, map}
use Rattle.indicatif_bar.specs.Inside.Bars.{bytes_of_strings}
use Rattle.std.specs.Prelude.{encode_utf8}
use Rattle.indicatif_bar.proofs.style.clusters.characters_of.Given as goal

abbrev pub invariant-loop-c : goal.invariant-loop-c
invariant-loop-c l = bytes_of_strings l.all.items ≡ map encode_utf8 l.yielded
