use Rattle.std.proofs.Common.{refl}
use Rattle.indicatif_bar.specs.Commands.{Finish}
use Rattle.indicatif_bar.specs.Finishes.{AbandonWithMessage}
use Rattle.indicatif_bar.proofs.CommandAnswerLemmas.{told_with_memory}
use Rattle.indicatif_bar.proofs.lone.LoneBar.abandon_with_message.Goals as goal

pub returns : goal.returns
returns g c =
    c.obey_unless.ensures.obeys c.args.self.now (Finish (AbandonWithMessage c.args.text.now))
    (record {
      as_told = told_with_memory g.K.Tracks.means c.args.self.now.shown.bar c.abandon_with_message-asked.new.self c.args.now
          (Finish (AbandonWithMessage c.args.text.now)) c.abandon_with_message-asked.result refl c.abandon_with_message-asked.ensures.done c.abandon_with_message-asked.ensures.unchanged
          c.abandon_with_message-asked.ensures.memory;
      rest = refl;
    })
