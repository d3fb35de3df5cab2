use Rattle.std.proofs.Common.{◌-◌, length}
use Rattle.indicatif_term.specs.Inside.Rests.{AreShared}
use Rattle.indicatif_term.proofs.engine.inks.shared_bytes.Given as goal

abbrev pub invariant-bytes : goal.invariant-bytes
invariant-bytes l = AreShared l.at l.a l.b

abbrev pub decreases-bytes : goal.decreases-bytes
decreases-bytes l = length l.a - l.at
