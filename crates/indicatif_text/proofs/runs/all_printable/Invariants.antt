use Rattle.std.proofs.Common.{take}
use Rattle.std.specs.Prelude.{IsTrue, All}
use Rattle.indicatif_text.specs.Inside.Runs.{IsPrintable}
use Rattle.indicatif_text.proofs.runs.all_printable.Given as goal

abbrev pub invariant-bytes : goal.invariant-bytes
invariant-bytes l = IsTrue l.all → All IsPrintable (take l.byte-index l.bytes)
