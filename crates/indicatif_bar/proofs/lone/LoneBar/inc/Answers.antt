use Rattle.std.proofs.Common.{refl}
use Rattle.indicatif_bar.specs.Commands.{Inc}
use Rattle.indicatif_bar.proofs.lone.LoneBar.inc.Goals as goal

pub returns : goal.returns
returns g c = c.obey.ensures.obeys c.args.self.now (Inc c.args.delta) (record { as_told = c.inc-ask.ensures; in_time = refl; rest = refl })
