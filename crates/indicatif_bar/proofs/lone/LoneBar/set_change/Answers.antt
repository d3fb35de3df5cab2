use Rattle.std.proofs.Common.{refl}
use Rattle.indicatif_bar.specs.Commands.{Update}
use Rattle.indicatif_bar.proofs.lone.LoneBar.set_change.Goals as goal

pub returns : goal.returns
returns g c = c.obey.ensures.obeys c.args.self.now (Update c.args.change.pos c.args.change.len) (record { as_told = c.set_change-ask.ensures; in_time = refl; rest = refl })
