use Rattle.std.proofs.Common.{refl}
use Rattle.indicatif_bar.specs.Commands.{Reset}
use Rattle.indicatif_bar.proofs.lone.LoneBar.reset.Goals as goal

pub returns : goal.returns
returns g c = c.obey.ensures.obeys c.args.self.now Reset (record { as_told = c.reset-ask.ensures; in_time = refl; rest = refl })
