use Rattle.indicatif.proofs.OwnedLemmas.{loop-made}
use Rattle.indicatif.proofs.laws.the_moves_of_a_loop.Goals as goal

pub returns : goal.returns
returns g c = λ items start end loops. loop-made g.P.Moves.stands g.P.Moves.leads g.I.Iterator.next_gives items start loops.0 end loops.1 loops.2.1
