use Rattle.std.proofs.Common.{refl, arith}
use Rattle.uses.proofs.histories.unforced_are_few.Goals as goal

pub returns : goal.returns
returns g c =
    let run = c.replays.ensures in
    (run, λ making last limiter final. c.what_a_history_says.ensures.bounded _ c.args.history.now _ run.2 20 making (omega arith) (omega arith) limiter last final)
