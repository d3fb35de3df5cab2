use Rattle.indicatif.proofs.SumLemmas.{along-moves}
use Rattle.indicatif.proofs.laws.blocks_are_moves.Goals as goal

pub returns : goal.returns
returns g c = λ items old new blocks. along-moves g.P.Moves.stands g.P.Moves.leads blocks.made old new blocks.along
