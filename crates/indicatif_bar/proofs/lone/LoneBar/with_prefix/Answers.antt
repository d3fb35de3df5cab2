use Rattle.std.proofs.Common.{refl}
use Rattle.indicatif_bar.specs.Commands.{WithPrefix}
use Rattle.indicatif_bar.proofs.CommandAnswerLemmas.{told_with_memory}
use Rattle.indicatif_bar.proofs.lone.LoneBar.with_prefix.Goals as goal

pub returns-clause-obeys : goal.returns-clause-obeys
returns-clause-obeys g c =
    c.obey_unless.ensures.obeys c.args.self.now (WithPrefix c.args.text.now)
    (record {
      as_told = told_with_memory g.K.Tracks.means c.args.self.now.shown.bar c.with_prefix-asked.new.self c.args.now
          (WithPrefix c.args.text.now) c.with_prefix-asked.result refl c.with_prefix-asked.ensures.done c.with_prefix-asked.ensures.unchanged c.with_prefix-asked.ensures.memory;
      rest = refl;
    })
