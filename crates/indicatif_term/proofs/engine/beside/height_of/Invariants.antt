use Rattle.std.proofs.Common.{◌≡◌, ◌-◌, ◌^◌, min, take}
use Rattle.indicatif_term.specs.Inside.Changing.{placed_height}
use Rattle.indicatif_term.specs.Standing.{placed}
use Rattle.indicatif_term.proofs.engine.beside.height_of.Given as goal

abbrev pub invariant-loop-line : goal.invariant-loop-line
invariant-loop-line l = l.rows ≡ min (placed_height (placed (take l.line-index l.lines))) (2 ^ 64 - 1)
