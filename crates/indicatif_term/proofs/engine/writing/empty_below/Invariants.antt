use Rattle.indicatif_term.specs.Calls.{LeadsOn}
use Rattle.indicatif_term.specs.Inside.MoveBytes.{rows_down}
use Rattle.indicatif_term.proofs.engine.writing.empty_below.Given as goal

abbrev pub invariant-loop : goal.invariant-loop
invariant-loop g l = LeadsOn (rows_down l.counter) (g.T.TermLike.view l.fn.term) (g.T.TermLike.view l.term)
