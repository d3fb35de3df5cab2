use Rattle.std.proofs.Common.{refl}
use Rattle.indicatif_bar.specs.Commands.{SetLength}
use Rattle.indicatif_bar.proofs.lone.LoneBar.set_length.Goals as goal

pub returns : goal.returns
returns g c = c.obey.ensures.obeys c.args.self.now (SetLength c.args.len) (record { as_told = c.set_length-ask.ensures; in_time = refl; rest = refl })
