use Rattle.std.proofs.Common.{refl}
use Rattle.indicatif_bar.specs.Commands.{SetMessage}
use Rattle.indicatif_bar.proofs.CommandAnswerLemmas.{told_with_memory}
use Rattle.indicatif_bar.proofs.lone.LoneBar.set_message.Goals as goal

pub returns : goal.returns
returns g c =
    c.obey_unless.ensures.obeys c.args.self.now (SetMessage c.args.text.now)
    (record {
      as_told = told_with_memory g.K.Tracks.means c.args.self.now.shown.bar c.set_message-asked.new.self c.args.now
          (SetMessage c.args.text.now) c.set_message-asked.result refl c.set_message-asked.ensures.done c.set_message-asked.ensures.unchanged c.set_message-asked.ensures.memory;
      rest = refl;
    })
