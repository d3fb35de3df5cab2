use Rattle.std.proofs.Common.{arith, rules}
use Rattle.indicatif_board.proofs.ShareLemmas.{least_parts-positive}
use Rattle.indicatif_board.proofs.StepLemmas.{adds}
use Rattle.indicatif_board.proofs.done.BarWorker.add.Goals as goal

pub fetch_add-requires : goal.fetch_add-requires
fetch_add-requires c =
    let some_part = least_parts-positive _ _ c.self.invariant.0 in
    (search rules, omega (arith, c.done.invariant.0), adds _ c.self.inside.seat.id c.args.n c.self.inside.seat.me some_part)
