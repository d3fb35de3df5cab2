use Rattle.std.proofs.Common.{refl}
use Rattle.indicatif_bar.specs.Commands.{Finish}
use Rattle.indicatif_bar.specs.Finishes.{Abandon}
use Rattle.indicatif_bar.proofs.lone.LoneBar.abandon.Goals as goal

pub returns : goal.returns
returns g c = c.obey.ensures.obeys c.args.self.now (Finish Abandon) (record { as_told = c.abandon-ask.ensures; in_time = refl; rest = refl })
