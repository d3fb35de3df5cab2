use Rattle.std.proofs.Common.{refl}
use Rattle.indicatif_bar.specs.Commands.{IncLength}
use Rattle.indicatif_bar.proofs.lone.LoneBar.inc_length.Goals as goal

pub returns : goal.returns
returns g c = c.obey.ensures.obeys c.args.self.now (IncLength c.args.delta) (record { as_told = c.inc_length-ask.ensures; in_time = refl; rest = refl })
