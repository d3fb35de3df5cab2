use Rattle.std.proofs.Common.{◌≡◌, true, take}
use Rattle.indicatif_term.specs.Inside.Changing.{all_stay}
use Rattle.indicatif_term.specs.Standing.{placed}
use Rattle.indicatif_term.proofs.engine.changing.all_standing.Given as goal

abbrev pub invariant-loop-line : goal.invariant-loop-line
invariant-loop-line l = all_stay (placed (take l.line-index l.lines)) ≡ true
