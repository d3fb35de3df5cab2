use Rattle.uses.proofs.MoveLemmas.{WentOn}
use Rattle.uses.proofs.loops.skip.Given as goal

abbrev pub invariant-loop : goal.invariant-loop
invariant-loop g l = WentOn (g.P.Moves.stands l.fn.list.progress) (g.P.Moves.stands l.list.progress) l.counter
