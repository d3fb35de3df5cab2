use Rattle.std.proofs.Common.{◌≡◌, ◌+◌, ◌≤◌, refl, arith, rules}
use Rattle.indicatif_board.proofs.ShareLemmas.{least_parts-halves}
use Rattle.indicatif_board.proofs.StepLemmas.{splits}
use Rattle.indicatif_board.proofs.done.BarWorker.split.Goals as goal

pub split_seat-given-requires : goal.split_seat-given-requires
split_seat-given-requires c = (search rules, omega (arith, c.done.invariant.0), splits c.self.inside.seat.id c.self.inside.seat.me.0)

pub invariant_of-result : goal.invariant_of-result
invariant_of-result c =
    let next : c.in_ok-splits.splits ≡ c.self.inside.splits + 1 = search rules in
    let few : c.in_ok-splits.splits ≤ 18446744073709551616 = search rules in
    let halves = least_parts-halves _ _ _ next few c.self.invariant.0 in
    let kept = c.split_seat-given.ensures.2 in
    rw kept (halves.0, c.self.invariant.1)

pub invariant_of-result-2 : goal.invariant_of-result-2
invariant_of-result-2 c =
    let next : c.in_ok-splits.splits ≡ c.self.inside.splits + 1 = search rules in
    let few : c.in_ok-splits.splits ≤ 18446744073709551616 = search rules in
    let halves = least_parts-halves _ _ _ next few c.self.invariant.0 in
    let given = c.split_seat-given.ensures.4 in
    rw given (halves.1, refl)
