use Rattle.std.proofs.Common.{refl}
use Rattle.indicatif_bar.specs.Commands.{Finish}
use Rattle.indicatif_bar.specs.Finishes.{AndLeave}
use Rattle.indicatif_bar.proofs.lone.LoneBar.finish.Goals as goal

pub returns : goal.returns
returns g c = c.obey.ensures.obeys c.args.self.now (Finish AndLeave) (record { as_told = c.finish-ask.ensures; in_time = refl; rest = refl })
