use Rattle.indicatif_term.proofs.RememberedLemmas.{ArePassed}
use Rattle.indicatif_term.proofs.engine.beside.lines_within.Given as goal

abbrev pub invariant-loop-at : goal.invariant-loop-at
invariant-loop-at l = ArePassed l.lines l.fn.rows l.at l.room
