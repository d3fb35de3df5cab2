use Rattle.std.proofs.Common.{arith}
use Rattle.indicatif.proofs.SeekLemmas.{moves-forget}
use Rattle.indicatif.proofs.laws.moves_forget_seeks.Goals as goal

pub returns : goal.returns
returns c = λ reset size at seeks moves enough some. moves-forget reset size at seeks.history seeks.moves moves (omega (arith, enough)) some
