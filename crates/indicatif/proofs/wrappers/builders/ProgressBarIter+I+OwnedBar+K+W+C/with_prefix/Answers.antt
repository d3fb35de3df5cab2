use Rattle.std.proofs.Common.{refl}
use Rattle.indicatif_bar.specs.Commands.{WithPrefix}
use Rattle.indicatif.proofs.BuilderLemmas.{may_build}
use Rattle.indicatif.proofs.wrappers.builders.ProgressBarIter+I+OwnedBar+K+W+C.with_prefix.Goals as goal

pub returns : goal.returns
returns g c =
    may_build g.K.Tracks.means g.W.TermLike.view c.args.self _ c.now-now.result refl refl refl (WithPrefix c.args.text.now) c.with_prefix-answer.result c.unless_refused.result
    refl c.with_prefix-answer.ensures.obeys c.with_prefix-answer.ensures.memory (c.unless_refused.ensures.itself, c.unless_refused.ensures.refused)
