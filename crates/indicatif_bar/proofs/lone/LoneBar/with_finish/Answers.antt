use Rattle.std.proofs.Common.{refl, ap}
use Rattle.indicatif_bar.specs.Commands.{WithFinish}
use Rattle.indicatif_bar.specs.Finishes.{finish_of}
use Rattle.indicatif_bar.proofs.lone.LoneBar.with_finish.Goals as goal

pub returns-clause-obeys : goal.returns-clause-obeys
returns-clause-obeys g c = c.obey.ensures.obeys c.args.self.now (WithFinish (finish_of c.args.finish)) (record { as_told = c.with_finish-ask.ensures; in_time = refl; rest = refl })

pub returns-clause-limited : goal.returns-clause-limited
returns-clause-limited g c = c.obey.ensures.unasked (ap (λ o. o.1) c.with_finish-ask.ensures)
