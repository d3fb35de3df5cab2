use Rattle.std.proofs.Common.{refl}
use Rattle.indicatif.proofs.BuilderLemmas.{may_build_elapsed}
use Rattle.indicatif.proofs.wrappers.builders.ProgressBarIter+I+OwnedBar+K+W+C.with_elapsed.Goals as goal

pub returns : goal.returns
returns g c =
    may_build_elapsed g.K.Tracks.means g.W.TermLike.view c.args.self _ c.now-now.result refl refl refl c.args.nanos c.set_elapsed-answer.result c.unless_refused.result
    c.set_elapsed-answer.ensures.obeys c.set_elapsed-answer.ensures.beyond c.set_elapsed-answer.ensures.no_other (c.unless_refused.ensures.itself, c.unless_refused.ensures.refused)
