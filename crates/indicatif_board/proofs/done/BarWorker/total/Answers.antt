use Rattle.std.proofs.Common.{arith, rules}
use Rattle.indicatif_board.proofs.StepLemmas.{totals}
use Rattle.indicatif_board.proofs.done.BarWorker.total.Goals as goal

pub load-requires : goal.load-requires
load-requires c = (search rules, omega (arith, c.done.invariant.0), totals _ c.self.inside.seat.id c.self.inside.seat.me)
