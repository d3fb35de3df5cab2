use Rattle.std.specs.Fn.{FnReturnsAt}
use Rattle.indicatif.specs.Inside.PartAnswers.{AnswersPart}
use Rattle.indicatif.proofs.PartAnswerLemmas.{all_together}
use Rattle.indicatif.proofs.parallel.answers.pieces_of_all.Goals as goal

pub returns-clause-pieces : goal.returns-clause-pieces
returns-clause-pieces g c =
    all_together (AnswersPart (FnReturnsAt g.F.Fn c.args.f.now) c.args.items.now) _ _ _ c.join-rest.ensures.second.0 c.join-rest.ensures.first c.together.ensures
