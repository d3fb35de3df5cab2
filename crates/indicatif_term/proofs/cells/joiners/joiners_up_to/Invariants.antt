use Rattle.std.proofs.Common.{◌≡◌, ◌++◌, reverse}
use Rattle.indicatif_term.specs.Inside.Joiners.{chain}
use Rattle.indicatif_term.proofs.cells.joiners.joiners_up_to.Given as goal

abbrev pub invariant-loop-left : goal.invariant-loop-left
invariant-loop-left l = chain (reverse l.joiners) l.last ≡ chain (reverse l.joiners) l.left ++ reverse l.found.items

abbrev pub decreases-loop-left : goal.decreases-loop-left
decreases-loop-left l = l.left
