use Rattle.std.proofs.Common.{◌≡◌, ◌≤◌, ◌<◌, sym, ap, arith, length, subst}
use Rattle.std.proofs.lemmas.List.Edits.{length-remove}
use Rattle.indicatif_board.specs.Slots.{SlotTable, IsSeated, unseated, made_by}
use Rattle.indicatif_board.proofs.SlotLemmas.{unseated_is, unseated_keeps, unseated_past}
use Rattle.indicatif_board.proofs.slots.MultiState.remove.Goals as goal

pub invariant_of-self : goal.invariant_of-self
invariant_of-self c =
    let s = c.self.inside in
    let t : SlotTable = record { order = s.order.items; slots = s.slots.items; free = s.free.items; made = made_by s.next } in
    let within : c.args.at < length s.order.items = omega (arith, c.if-at-len.true, c.len.ensures, s.order.ok) in
    let inside : c.args.at < length s.slots.items = omega (arith, within, c.self.invariant.0.even) in
    let is = unseated_is t c.args.at c.take_at.result c.take_at.result c.remove.new.self.items c.take_at.new.items.items c.push_reserved.new.self.items inside
    c.take_at.ensures.value c.remove.ensures.items c.take_at.ensures.items c.push_reserved.ensures.items in (
      subst IsSeated (sym is) (unseated_keeps t c.args.at c.self.invariant.0 within),
      omega (
        arith,
        c.self.invariant.1,
        c.push_reserved.ensures.capacity,
        c.push_reserved.ensures.len,
        c.take_at.new.items.ok,
        ap length c.take_at.ensures.items,
        length-remove s.slots.items c.args.at inside,
        s.slots.ok,
      ),
    )

pub returns-else-at-len-clause-removed : goal.returns-else-at-len-clause-removed
returns-else-at-len-clause-removed c =
    let s = c.self.inside in
    let t : SlotTable = record { order = s.order.items; slots = s.slots.items; free = s.free.items; made = made_by s.next } in
    let past : length s.order.items ≤ c.args.at = omega (arith, c.if-at-len.false, c.len.ensures, s.order.ok) in
    subst (λ x. x ≡ unseated c.args.at x) c.self.view_is (unseated_past t c.args.at c.self.invariant.0 past)
