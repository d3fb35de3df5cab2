use Rattle.std.proofs.Common.{refl}
use Rattle.indicatif_bar.specs.Commands.{SetStyle}
use Rattle.indicatif_bar.proofs.CommandAnswerLemmas.{told_with_memory}
use Rattle.indicatif_bar.proofs.lone.LoneBar.with_style.Goals as goal

pub returns-clause-obeys : goal.returns-clause-obeys
returns-clause-obeys g c =
    c.obey_unless.ensures.obeys c.args.self.now (SetStyle c.args.style)
    (record {
      as_told = told_with_memory g.K.Tracks.means c.args.self.now.shown.bar c.with_style-asked.new.self c.args.now
          (SetStyle c.args.style) c.with_style-asked.result refl c.with_style-asked.ensures.done c.with_style-asked.ensures.unchanged c.with_style-asked.ensures.memory;
      rest = refl;
    })
