use Rattle.std.proofs.Common.{refl}
use Rattle.indicatif_bar.specs.Commands.{SetElapsed}
use Rattle.indicatif_bar.proofs.CommandAnswerLemmas.{told_elapsed}
use Rattle.indicatif_bar.proofs.lone.LoneBar.set_elapsed.Goals as goal

pub returns-clause-obeys : goal.returns-clause-obeys
returns-clause-obeys g c =
    c.obey_unless.ensures.obeys c.args.self.now (SetElapsed c.args.nanos)
    (record {
      as_told = told_elapsed g.K.Tracks.means c.args.self.now.shown.bar c.set_elapsed-asked.new.self c.args.now c.args.nanos c.set_elapsed-asked.result c.set_elapsed-asked.ensures.done
          c.set_elapsed-asked.ensures.unchanged c.set_elapsed-asked.ensures.beyond c.set_elapsed-asked.ensures.no_other;
      rest = refl;
    })
