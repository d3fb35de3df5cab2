use Rattle.std.proofs.Common.{arith, rules}
use Rattle.indicatif_board.proofs.StepLemmas.{joins}
use Rattle.indicatif_board.proofs.done.BarWorker.join.Goals as goal

pub join_seat-requires : goal.join_seat-requires
join_seat-requires c =
    (search rules, search rules, c.other.invariant.1, omega (arith, c.done.invariant.0), joins c.self.inside.seat.id c.self.inside.seat.me.0 c.other.inside.seat.id c.other.inside.seat.me.0)
