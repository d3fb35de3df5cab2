use Rattle.std.proofs.Common.{refl}
use Rattle.indicatif_bar.specs.Commands.{SetTabWidth}
use Rattle.indicatif_bar.proofs.CommandAnswerLemmas.{told_with_memory}
use Rattle.indicatif_bar.proofs.lone.LoneBar.set_tab_width.Goals as goal

pub returns : goal.returns
returns g c =
    c.obey_unless.ensures.obeys c.args.self.now (SetTabWidth c.args.tab)
    (record {
      as_told = told_with_memory g.K.Tracks.means c.args.self.now.shown.bar c.set_tab_width-asked.new.self c.args.now
          (SetTabWidth c.args.tab) c.set_tab_width-asked.result refl c.set_tab_width-asked.ensures.done c.set_tab_width-asked.ensures.unchanged c.set_tab_width-asked.ensures.memory;
      rest = refl;
    })
