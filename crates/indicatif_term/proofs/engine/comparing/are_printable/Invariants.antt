use Rattle.std.proofs.Common.{take}
use Rattle.std.specs.Prelude.{IsTrue, All}
use Rattle.std.specs.Int.{IsInRange}
use Rattle.indicatif_term.proofs.engine.comparing.are_printable.Given as goal

abbrev pub invariant-bytes : goal.invariant-bytes
invariant-bytes l = IsTrue l.all → All (IsInRange 0x20 0x7E) (take l.byte-index l.bytes)
