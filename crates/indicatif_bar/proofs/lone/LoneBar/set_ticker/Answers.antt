use Rattle.std.proofs.Common.{refl, ap}
use Rattle.indicatif_bar.specs.Commands.{SetTicker}
use Rattle.indicatif_bar.proofs.lone.LoneBar.set_ticker.Goals as goal

pub returns-clause-obeys : goal.returns-clause-obeys
returns-clause-obeys g c = c.obey.ensures.obeys c.args.self.now (SetTicker c.args.installed) (record { as_told = c.set_ticker-ask.ensures; in_time = refl; rest = refl })

pub returns-clause-limited : goal.returns-clause-limited
returns-clause-limited g c = c.obey.ensures.unasked (ap (λ o. o.1) c.set_ticker-ask.ensures)
