use Rattle.std.proofs.Common.{◌≡◌, ◌≤◌, ◌-◌, ◌∙◌, sym, ap, arith, length, take, get_or, min}
use Rattle.std.specs.Prelude.{vec_len}
use Rattle.std.specs.Option.{unwrap_or}
use Rattle.std.specs.List.{insert}
use Rattle.std.proofs.lemmas.List.Edits.{length-insert}
use Rattle.indicatif_board.specs.Slots.{SlotTable, next_slot, seated, made_by}
use Rattle.indicatif_board.proofs.SlotLemmas.{next_is, inserted_seated, inserted_is}
use Rattle.indicatif_board.proofs.slots.MultiState.insert.Goals as goal

-- the table before
abbrev table : goal.After-inserted → SlotTable
table c = let s = c.self.inside in record { order = s.order.items; slots = s.slots.items; free = s.free.items; made = made_by s.next }

slots_size : (c : goal.After-inserted) → length c.reserve-2.new.self.items ≡ length c.self.inside.slots.items
slots_size c = ap length c.in_ok-reserve-2.ensures.items

place : (c : goal.After-inserted) → c.min-at.result ≡ min c.args.at (length c.self.inside.order.items)
place c = let size : length c.reserve.new.self.items ≡ length c.self.inside.order.items = ap length c.in_ok-reserve.ensures.items in
    omega (arith, c.min-at.ensures, c.len-3.ensures, c.reserve.new.self.ok, size)

slot : (c : goal.After-inserted) → c.unwrap_or-slot.result ≡ next_slot (table c)
slot c =
    let s = c.self.inside in
    let free = c.reserve-3.new.self in
    let other : c.len-2.result ≡ length s.slots.items = omega (arith, c.len-2.ensures, c.reserve-2.new.self.ok, slots_size c) in
    c.unwrap_or-slot.ensures ∙ ap (λ o. unwrap_or c.pop.result o) other
    ∙ next_is free.items (vec_len free) (length s.slots.items) (vec_len c.pop.new.self) c.pop.result free.ok.0 c.pop.ensures.cases c.pop.ensures.value
    ∙ ap (λ f. get_or f (length f - 1) (length s.slots.items)) c.in_ok-reserve-3.ensures.items

order : (c : goal.After-inserted) → c.put_at.new.items.items ≡ insert c.self.inside.order.items c.min-at.result c.in-Some.number
order c = c.put_at.ensures ∙ ap (λ xs. insert xs c.min-at.result c.in-Some.number) c.in_ok-reserve.ensures.items

slots : (c : goal.After-inserted) → c.queue_at.new.items.items ≡ insert c.self.inside.slots.items c.min-at.result c.unwrap_or-slot.result
slots c = c.queue_at.ensures ∙ ap (λ xs. insert xs c.min-at.result c.unwrap_or-slot.result) c.in_ok-reserve-2.ensures.items

left : (c : goal.After-inserted) → c.pop.new.self.items ≡ take (length c.self.inside.free.items - 1) c.self.inside.free.items
left c =
    let free = c.reserve-3.new.self in
    c.pop.ensures.rest ∙ ap (λ k. take (k - 1) free.items) free.ok.0 ∙ ap (λ f. take (length f - 1) f) c.in_ok-reserve-3.ensures.items

pub invariant_of-self-2 : goal.invariant_of-self-2
invariant_of-self-2 c = (
  inserted_seated (table c) c.args.at c.min-at.result c.in-Some.number c.unwrap_or-slot.result (made_by c.number_after-self-inside.result) c.put_at.new.items.items
      c.queue_at.new.items.items c.pop.new.self.items
      c.self.invariant.0 (place c) (sym (ap made_by c.in-Some.is)) (slot c) (order c) (slots c) (left c) c.number_after-self-inside.ensures,
  let within : c.min-at.result ≤ length c.self.inside.slots.items = omega (arith, place c, c.self.invariant.0.even) in omega (
    arith,
    c.self.invariant.1,
    c.pop.ensures.capacity,
    c.in_ok-reserve-3.ensures,
    c.len.ensures,
    slots_size c,
    c.queue_at.new.items.ok,
    ap length (slots c),
    length-insert c.self.inside.slots.items c.min-at.result c.unwrap_or-slot.result within,
    c.pop.ensures.cases,
    c.pop.ensures.len,
  ),
)

pub returns-clause-inserted : goal.returns-clause-inserted
returns-clause-inserted c =
    inserted_is (table c) c.args.at c.min-at.result c.in-Some.number c.unwrap_or-slot.result (made_by c.number_after-self-inside.result) c.put_at.new.items.items c.queue_at.new.items.items
    c.pop.new.self.items c.self.invariant.0 (place c) (sym (ap made_by c.in-Some.is)) (slot c) (order c) (slots c) (left c) c.number_after-self-inside.ensures
    ∙ ap (λ x. seated c.args.at x) c.self.view_is
