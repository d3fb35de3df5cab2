use Rattle.std.proofs.Common.{take}
use Rattle.indicatif_term.specs.Inside.Changing.{AreEven}
use Rattle.indicatif_term.proofs.engine.changing.are_even.Given as goal

abbrev pub invariant-loop-line : goal.invariant-loop-line
invariant-loop-line l = AreEven l.width (take l.line-index l.lines)
