use Rattle.std.proofs.Common.{refl}
use Rattle.indicatif_bar.specs.Commands.{SetPrefix}
use Rattle.indicatif_bar.proofs.CommandAnswerLemmas.{told_with_memory}
use Rattle.indicatif_bar.proofs.lone.LoneBar.set_prefix.Goals as goal

pub returns : goal.returns
returns g c =
    c.obey_unless.ensures.obeys c.args.self.now (SetPrefix c.args.text.now)
    (record {
      as_told = told_with_memory g.K.Tracks.means c.args.self.now.shown.bar c.set_prefix-asked.new.self c.args.now
          (SetPrefix c.args.text.now) c.set_prefix-asked.result refl c.set_prefix-asked.ensures.done c.set_prefix-asked.ensures.unchanged c.set_prefix-asked.ensures.memory;
      rest = refl;
    })
