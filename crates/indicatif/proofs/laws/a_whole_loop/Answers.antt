use Rattle.std.proofs.Common.{refl}
use Rattle.indicatif.specs.Wrap.{inner_of}
use Rattle.indicatif.proofs.LoopLemmas.{loop-inner, loop-goes}
use Rattle.indicatif.proofs.laws.a_whole_loop.Goals as goal

pub returns : goal.returns
returns g c = λ items start end loops. (
  (inner_of loops.0, loop-inner g.P.Moves.stands g.P.Moves.leads g.I.Iterator.next_gives items start loops.0 loops.1, loops.2.0),
  loop-goes g.P.Moves.stands g.P.Moves.leads g.I.Iterator.next_gives items start end (g.P.Moves.stands start.progress) refl loops,
)
