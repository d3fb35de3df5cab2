use Rattle.std.proofs.Common.{refl, ap}
use Rattle.indicatif_bar.specs.Commands.{ResetElapsed}
use Rattle.indicatif_bar.proofs.lone.LoneBar.reset_elapsed.Goals as goal

pub returns-clause-obeys : goal.returns-clause-obeys
returns-clause-obeys g c = c.obey.ensures.obeys c.args.self.now ResetElapsed (record { as_told = c.reset_elapsed-ask.ensures; in_time = refl; rest = refl })

pub returns-clause-limited : goal.returns-clause-limited
returns-clause-limited g c = c.obey.ensures.unasked (ap (λ o. o.1) c.reset_elapsed-ask.ensures)
