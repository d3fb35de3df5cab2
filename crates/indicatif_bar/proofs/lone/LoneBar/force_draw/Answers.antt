use Rattle.std.proofs.Common.{refl}
use Rattle.indicatif_bar.specs.Commands.{ForceDraw}
use Rattle.indicatif_bar.proofs.lone.LoneBar.force_draw.Goals as goal

pub returns : goal.returns
returns g c = c.obey.ensures.obeys c.args.self.now ForceDraw (record { as_told = c.force_draw-ask.ensures; in_time = refl; rest = refl })
