use Rattle.std.proofs.Common.{refl}
use Rattle.indicatif_bar.specs.Commands.{Finish}
use Rattle.indicatif_bar.specs.Finishes.{AndClear}
use Rattle.indicatif_bar.proofs.lone.LoneBar.finish_and_clear.Goals as goal

pub returns : goal.returns
returns g c = c.obey.ensures.obeys c.args.self.now (Finish AndClear) (record { as_told = c.finish_and_clear-ask.ensures; in_time = refl; rest = refl })
