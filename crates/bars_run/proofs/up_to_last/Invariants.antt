use Rattle.std.proofs.Common.{◌≡◌, length, map}
use Rattle.std.specs.Prelude.{string_bytes}
use Rattle.bars_run.specs.Printing.{up_to_last}
use Rattle.bars_run.proofs.up_to_last.Given as goal

abbrev pub invariant-loop-last : goal.invariant-loop-last
invariant-loop-last l = up_to_last (map (λ row. string_bytes row) l.shown) ≡ up_to_last (map (λ row. string_bytes row) l.rows)

abbrev pub decreases-loop-last : goal.decreases-loop-last
decreases-loop-last l = length l.shown
