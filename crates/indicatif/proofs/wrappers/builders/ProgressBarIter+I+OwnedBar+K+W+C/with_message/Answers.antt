use Rattle.std.proofs.Common.{refl}
use Rattle.indicatif_bar.specs.Commands.{WithMessage}
use Rattle.indicatif.proofs.BuilderLemmas.{may_build}
use Rattle.indicatif.proofs.wrappers.builders.ProgressBarIter+I+OwnedBar+K+W+C.with_message.Goals as goal

pub returns : goal.returns
returns g c =
    may_build g.K.Tracks.means g.W.TermLike.view c.args.self _ c.now-now.result refl refl refl (WithMessage c.args.text.now) c.with_message-answer.result c.unless_refused.result
    refl c.with_message-answer.ensures.obeys c.with_message-answer.ensures.memory (c.unless_refused.ensures.itself, c.unless_refused.ensures.refused)
