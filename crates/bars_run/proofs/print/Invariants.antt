use Rattle.std.proofs.Common.{take, map}
use Rattle.std.specs.Prelude.{string_bytes}
use Rattle.std.specs.Io.KnownBytes.{Appends}
use Rattle.bars_run.proofs.PrintLemmas.{ended}
use Rattle.bars_run.proofs.print.Given as goal

abbrev pub invariant-loop-row : goal.invariant-loop-row
invariant-loop-row g l = Appends (g.O.Write.contents l.fn.out) (g.O.Write.contents l.out) (ended (map (λ row. string_bytes row) (take l.row-index l.shown)))
