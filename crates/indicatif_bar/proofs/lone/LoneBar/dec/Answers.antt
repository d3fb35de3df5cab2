use Rattle.std.proofs.Common.{refl}
use Rattle.indicatif_bar.specs.Commands.{Dec}
use Rattle.indicatif_bar.proofs.lone.LoneBar.dec.Goals as goal

pub returns : goal.returns
returns g c = c.obey.ensures.obeys c.args.self.now (Dec c.args.delta) (record { as_told = c.dec-ask.ensures; in_time = refl; rest = refl })
