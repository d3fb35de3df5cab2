use Rattle.indicatif.proofs.OwnedLemmas.{moves-run}
use Rattle.indicatif.proofs.laws.moves_are_a_run.Goals as goal

pub returns : goal.returns
returns g c = λ made old new along. moves-run g.K.Tracks.means g.T.TermLike.view made old new along
