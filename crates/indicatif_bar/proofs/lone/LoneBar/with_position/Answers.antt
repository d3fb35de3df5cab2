use Rattle.std.proofs.Common.{refl, ap}
use Rattle.indicatif_bar.specs.Commands.{WithPosition}
use Rattle.indicatif_bar.proofs.lone.LoneBar.with_position.Goals as goal

pub returns-clause-obeys : goal.returns-clause-obeys
returns-clause-obeys g c = c.obey.ensures.obeys c.args.self.now (WithPosition c.args.position) (record { as_told = c.with_position-ask.ensures; in_time = refl; rest = refl })

pub returns-clause-limited : goal.returns-clause-limited
returns-clause-limited g c = c.obey.ensures.unasked (ap (λ o. o.1) c.with_position-ask.ensures)
