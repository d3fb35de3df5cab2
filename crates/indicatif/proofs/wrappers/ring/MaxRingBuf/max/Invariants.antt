use Rattle.std.proofs.Common.{◌≡◌, take}
use Rattle.indicatif.specs.Ring.{greatest_of}
use Rattle.indicatif.proofs.wrappers.ring.MaxRingBuf.max.Given as goal

abbrev pub invariant-loop-place : goal.invariant-loop-place
invariant-loop-place g l = l.most ≡ greatest_of (take l.place-index l.place-items)
