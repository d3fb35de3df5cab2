use Rattle.std.proofs.Common.{refl}
use Rattle.indicatif_bar.specs.Commands.{FinishUsingStyle}
use Rattle.indicatif_bar.proofs.CommandAnswerLemmas.{told_with_memory}
use Rattle.indicatif_bar.proofs.lone.LoneBar.finish_using_style.Goals as goal

pub returns : goal.returns
returns g c =
    c.obey_unless.ensures.obeys c.args.self.now FinishUsingStyle
    (record {
      as_told = told_with_memory g.K.Tracks.means c.args.self.now.shown.bar c.finish_using_style-asked.new.self c.args.now FinishUsingStyle c.finish_using_style-asked.result refl
          c.finish_using_style-asked.ensures.done c.finish_using_style-asked.ensures.unchanged c.finish_using_style-asked.ensures.memory;
      rest = refl;
    })
