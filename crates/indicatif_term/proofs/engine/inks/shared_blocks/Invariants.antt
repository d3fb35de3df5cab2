use Rattle.std.proofs.Common.{◌-◌, length}
use Rattle.indicatif_term.specs.Inside.Rests.{AreShared}
use Rattle.indicatif_term.proofs.engine.inks.shared_blocks.Given as goal

abbrev pub invariant-whole : goal.invariant-whole
invariant-whole l = AreShared l.at l.a l.b

abbrev pub decreases-whole : goal.decreases-whole
decreases-whole l = length l.a - l.at
