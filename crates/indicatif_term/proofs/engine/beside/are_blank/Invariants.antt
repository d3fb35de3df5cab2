use Rattle.indicatif_term.proofs.LaidLemmas.{ShowNothing}
use Rattle.indicatif_term.proofs.engine.beside.are_blank.Given as goal

abbrev pub invariant-loop-at : goal.invariant-loop-at
invariant-loop-at l = ShowNothing l.at l.lines
