use Rattle.indicatif_term.proofs.SomeListsLemmas.{some_fit}
use Rattle.indicatif_term.proofs.engine.Engine.term.Goals as goal

pub returns-clause-some : goal.returns-clause-some
returns-clause-some g c = some_fit c.args.self.now c.args.self.now.some
