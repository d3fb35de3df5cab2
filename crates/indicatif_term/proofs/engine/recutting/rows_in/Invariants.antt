use Rattle.std.proofs.Common.{◌≡◌, ◌≤◌, take}
use Rattle.std.specs.Prelude.{sum}
use Rattle.indicatif_term.proofs.engine.recutting.rows_in.Given as goal

abbrev pub invariant-loop-height : goal.invariant-loop-height
invariant-loop-height l = record { rows_are : l.rows ≡ sum (take l.height-index l.heights); small : l.rows ≤ 0xFFFF_FFFF }
