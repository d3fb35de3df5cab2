use Rattle.std.proofs.Common.{length, arith, ap, length-append}
use Rattle.indicatif_text.specs.Format.{human_count}
use Rattle.indicatif_text.proofs.CountLemmas.{count_goes_on, count_room}
use Rattle.indicatif_text.proofs.format.short_text.ShortText.prepend_wide_count.Goals as goal

pub prepend_three_digits-requires : goal.prepend_three_digits-requires
prepend_three_digits-requires c =
    let room = count_room c.loop-left.left c.args.n c.loop-left.self c.args.self.now (omega arith) (omega arith) c.loop-left.invariant c.requires in
    omega (arith, room)

pub prepend-requires-clause-room : goal.prepend-requires-clause-room
prepend-requires-clause-room c =
    let room = count_room c.loop-left.left c.args.n c.loop-left.self c.args.self.now (omega arith) (omega arith) c.loop-left.invariant c.requires in
    omega (arith, room, ap length c.prepend_three_digits.ensures)

pub loop-left-preserved : goal.loop-left-preserved
loop-left-preserved c =
    rw (c.prepend.ensures, c.prepend_three_digits.ensures)
    (count_goes_on c.loop-left.left c.args.n c.loop-left.self c.args.self.now (omega arith) (omega arith) c.loop-left.invariant)

pub prepend_count-requires : goal.prepend_count-requires
prepend_count-requires c =
    omega (arith, ap length c.loop-left.invariant, length-append (human_count c.loop-left.left) c.loop-left.self, length-append (human_count c.args.n) c.args.self.now)
