use Rattle.std.proofs.Common.{refl}
use Rattle.indicatif.proofs.SumLemmas.{blocks-told}
use Rattle.indicatif.proofs.laws.blocks_add_up.Goals as goal

pub returns : goal.returns
returns g c = λ items old new blocks. blocks-told g.P.Moves.stands g.P.Moves.leads items old new (g.P.Moves.stands old) refl blocks
