use Rattle.std.proofs.Common.{◌≡◌, ◌≤◌, sym, ap, arith, length, take, subst}
use Rattle.std.proofs.lemmas.List.{length-append, length-drop, length-take-le}
use Rattle.indicatif_board.specs.Slots.{SlotTable, IsSeated, head_unseated, made_by}
use Rattle.indicatif_board.proofs.SlotLemmas.{head_keeps}
use Rattle.indicatif_board.proofs.slots.MultiState.remove_first.Goals as goal

pub invariant_of-self : goal.invariant_of-self
invariant_of-self c =
    let s = c.self.inside in
    let t : SlotTable = record { order = s.order.items; slots = s.slots.items; free = s.free.items; made = made_by s.next } in
    let count = c.min-count.result in
    let within : count ≤ length s.order.items = omega (arith, c.min-count.ensures, c.len.ensures, s.order.ok) in
    let inside : count ≤ length s.slots.items = omega (arith, within, c.self.invariant.0.even) in
    let is : (let there : SlotTable = record { order = c.drop_front.new.items.items; slots = c.move_front.new.items.items; free = c.move_front.new.others.items; made = made_by s.next } in
    there ≡ head_unseated count t) = cc (c.drop_front.ensures, c.move_front.ensures.items, c.move_front.ensures.others) in (
      subst IsSeated (sym is) (head_keeps t count c.self.invariant.0 within),
      omega (
        arith,
        c.self.invariant.1,
        c.move_front.ensures.room,
        c.move_front.new.others.ok,
        ap length c.move_front.ensures.others,
        length-append s.free.items (take count s.slots.items),
        length-take-le count s.slots.items inside,
        c.move_front.new.items.ok,
        ap length c.move_front.ensures.items,
        length-drop count s.slots.items,
        s.slots.ok,
        s.free.ok,
      ),
    )
