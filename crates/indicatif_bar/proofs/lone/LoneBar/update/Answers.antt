use Rattle.std.proofs.Common.{refl}
use Rattle.indicatif_bar.specs.Commands.{Update}
use Rattle.indicatif_bar.proofs.lone.LoneBar.update.Goals as goal

pub returns : goal.returns
returns g c =
    let told = c.update-ask.ensures in
    (told.0, told.1, c.obey.ensures.obeys c.args.self.now (Update told.0.pos told.0.len) (record { as_told = told.2; in_time = refl; rest = refl }))
