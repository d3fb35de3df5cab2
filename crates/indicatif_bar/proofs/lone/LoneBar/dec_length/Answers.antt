use Rattle.std.proofs.Common.{refl}
use Rattle.indicatif_bar.specs.Commands.{DecLength}
use Rattle.indicatif_bar.proofs.lone.LoneBar.dec_length.Goals as goal

pub returns : goal.returns
returns g c = c.obey.ensures.obeys c.args.self.now (DecLength c.args.delta) (record { as_told = c.dec_length-ask.ensures; in_time = refl; rest = refl })
