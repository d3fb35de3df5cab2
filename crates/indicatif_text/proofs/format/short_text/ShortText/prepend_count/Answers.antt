use Rattle.std.proofs.Common.{length, arith, ap, ◌∙◌}
use Rattle.indicatif_text.proofs.CountLemmas.{count_goes_on, count_room, count_ends, last_room}
use Rattle.indicatif_text.proofs.format.short_text.ShortText.prepend_count.Goals as goal

pub prepend_three_digits-requires : goal.prepend_three_digits-requires
prepend_three_digits-requires c =
    let room = count_room c.loop-left.left c.args.n c.loop-left.self c.args.self.now c.loop-left-test.true (omega arith) c.loop-left.invariant c.requires in
    omega (arith, room)

pub prepend-requires-clause-room : goal.prepend-requires-clause-room
prepend-requires-clause-room c =
    let room = count_room c.loop-left.left c.args.n c.loop-left.self c.args.self.now c.loop-left-test.true (omega arith) c.loop-left.invariant c.requires in
    omega (arith, room, ap length c.prepend_three_digits.ensures)

pub loop-left-preserved : goal.loop-left-preserved
loop-left-preserved c =
    rw (c.prepend.ensures, c.prepend_three_digits.ensures)
    (count_goes_on c.loop-left.left c.args.n c.loop-left.self c.args.self.now c.loop-left-test.true (omega arith) c.loop-left.invariant)

pub prepend_number-requires : goal.prepend_number-requires
prepend_number-requires c = last_room c.loop-left.left c.args.n c.loop-left.self c.args.self.now (omega arith) c.loop-left.invariant c.requires

pub returns : goal.returns
returns c = c.prepend_number.ensures ∙ count_ends c.loop-left.left c.args.n c.loop-left.self c.args.self.now (omega arith) c.loop-left.invariant
