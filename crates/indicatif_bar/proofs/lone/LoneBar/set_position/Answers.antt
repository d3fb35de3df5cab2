use Rattle.std.proofs.Common.{refl}
use Rattle.indicatif_bar.specs.Commands.{SetPosition}
use Rattle.indicatif_bar.proofs.lone.LoneBar.set_position.Goals as goal

pub returns : goal.returns
returns g c = c.obey.ensures.obeys c.args.self.now (SetPosition c.args.position) (record { as_told = c.set_position-ask.ensures; in_time = refl; rest = refl })
