use Rattle.std.proofs.Common.{refl}
use Rattle.indicatif_bar.specs.Commands.{TickerTick}
use Rattle.indicatif_bar.proofs.lone.LoneBar.ticker_tick.Goals as goal

pub returns : goal.returns
returns g c = c.obey.ensures.obeys c.args.self.now TickerTick (record { as_told = c.ticker_tick-ask.ensures; in_time = refl; rest = refl })
