use Rattle.std.proofs.Common.{refl}
use Rattle.indicatif_bar.specs.Commands.{WithTabWidth}
use Rattle.indicatif_bar.proofs.CommandAnswerLemmas.{told_with_memory}
use Rattle.indicatif_bar.proofs.lone.LoneBar.with_tab_width.Goals as goal

pub returns-clause-obeys : goal.returns-clause-obeys
returns-clause-obeys g c =
    c.obey_unless.ensures.obeys c.args.self.now (WithTabWidth c.args.tab)
    (record {
      as_told = told_with_memory g.K.Tracks.means c.args.self.now.shown.bar c.with_tab_width-asked.new.self c.args.now
          (WithTabWidth c.args.tab) c.with_tab_width-asked.result refl c.with_tab_width-asked.ensures.done c.with_tab_width-asked.ensures.unchanged c.with_tab_width-asked.ensures.memory;
      rest = refl;
    })
