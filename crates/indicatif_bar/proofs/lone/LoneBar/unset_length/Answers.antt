use Rattle.std.proofs.Common.{refl}
use Rattle.indicatif_bar.specs.Commands.{UnsetLength}
use Rattle.indicatif_bar.proofs.lone.LoneBar.unset_length.Goals as goal

pub returns : goal.returns
returns g c = c.obey.ensures.obeys c.args.self.now UnsetLength (record { as_told = c.unset_length-ask.ensures; in_time = refl; rest = refl })
