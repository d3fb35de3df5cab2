use Rattle.std.proofs.Common.{refl}
use Rattle.indicatif_bar.specs.Commands.{Tick}
use Rattle.indicatif_bar.proofs.lone.LoneBar.tick.Goals as goal

pub returns : goal.returns
returns g c = c.obey.ensures.obeys c.args.self.now Tick (record { as_told = c.tick-ask.ensures; in_time = refl; rest = refl })
