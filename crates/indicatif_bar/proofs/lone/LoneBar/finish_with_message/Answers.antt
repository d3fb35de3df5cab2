use Rattle.std.proofs.Common.{refl}
use Rattle.indicatif_bar.specs.Commands.{Finish}
use Rattle.indicatif_bar.specs.Finishes.{WithMessage}
use Rattle.indicatif_bar.proofs.CommandAnswerLemmas.{told_with_memory}
use Rattle.indicatif_bar.proofs.lone.LoneBar.finish_with_message.Goals as goal

pub returns : goal.returns
returns g c =
    c.obey_unless.ensures.obeys c.args.self.now (Finish (WithMessage c.args.text.now))
    (record {
      as_told = told_with_memory g.K.Tracks.means c.args.self.now.shown.bar c.finish_with_message-asked.new.self c.args.now
          (Finish (WithMessage c.args.text.now)) c.finish_with_message-asked.result refl c.finish_with_message-asked.ensures.done c.finish_with_message-asked.ensures.unchanged
          c.finish_with_message-asked.ensures.memory;
      rest = refl;
    })
