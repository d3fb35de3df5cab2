-- A bar's slot is its own, and it has one exactly where it stands in the order.
use Rattle.std.proofs.Common.{ap, ◌≡◌, ◌⊎◌, ℕ, zero, suc, ◌+◌, ◌≤◌, Bool, true, false, List, [], ◌∷◌, length, Option, Some, None, refl, sym, ◌∙◌, arith, inl, inr, if◌then◌else◌}
use Rattle.std.specs.Prelude.{◌==◌, ◌↔◌}
use Rattle.std.specs.List.{insert}
use Rattle.std.proofs.lemmas.Bool.{cases_Bool, cases_lt, eqb-true, eqb-false, eq-eqb}
use Rattle.indicatif_board.specs.Slots.{SlotTable, IsSeated, slot_in, slot_of, next_slot, seated, occurrences}
use Rattle.indicatif_board.proofs.SlotLemmas.{ones_same, ones_other, occurrences-front}

-- the bar at the front has this slot, or one of the others
pub found : (b : Bool) (x slot : ℕ) (rest : Option ℕ) → (if b then Some x else rest) ≡ Some slot → ((b ≡ true) × (x ≡ slot)) ⊎ ((b ≡ false) × (rest ≡ Some slot))
found true x slot rest e = inl (refl, cc e)
found false x slot rest e = inr (refl, e)

nowhere : (b : Bool) (x : ℕ) (rest : Option ℕ) → (if b then Some x else rest) ≡ None → (b ≡ false) × (rest ≡ None)
nowhere true x rest e = absurd (cc e)
nowhere false x rest e = (refl, e)

-- a slot that a bar has is among the slots
has_slot : (number slot : ℕ) (order slots : List ℕ) → slot_in number order slots ≡ Some slot → 1 ≤ occurrences slot slots
has_slot number slot [] slots e = absurd (cc e)
has_slot number slot (n ∷ order) [] e = absurd (cc e)
has_slot number slot (n ∷ order) (x ∷ slots) e = elim (found (n == number) x slot (slot_in number order slots) e) [
  | inl here ↦ omega (arith, occurrences-front slot x slots, ones_same slot x here.1)
  | inr there ↦ omega (arith, occurrences-front slot x slots, has_slot number slot order slots there.1)
]

slots_apart_in : (one other slot : ℕ) (order slots : List ℕ) → occurrences slot slots ≤ 1 → slot_in one order slots ≡ Some slot → slot_in other order slots ≡ Some slot → one ≡ other
slots_apart_in one other slot [] slots most a b = absurd (cc a)
slots_apart_in one other slot (n ∷ order) [] most a b = absurd (cc a)
slots_apart_in one other slot (n ∷ order) (x ∷ slots) most a b = elim (found (n == one) x slot (slot_in one order slots) a) [
  | inl first ↦ elim (found (n == other) x slot (slot_in other order slots) b) [
    | inl second ↦ sym (eqb-true n one first.0) ∙ eqb-true n other second.0
    | inr later ↦ absurd (omega (arith, occurrences-front slot x slots, ones_same slot x first.1, has_slot other slot order slots later.1, most))
  ]
  | inr rest ↦ elim (found (n == other) x slot (slot_in other order slots) b) [
    | inl second ↦ absurd (omega (arith, occurrences-front slot x slots, ones_same slot x second.1, has_slot one slot order slots rest.1, most))
    | inr later ↦ slots_apart_in one other slot order slots (omega (arith, occurrences-front slot x slots, most)) rest.1 later.1
  ]
]

pub slots_apart : (t : SlotTable) (one other slot : ℕ) → IsSeated t → slot_of one t ≡ Some slot → slot_of other t ≡ Some slot → one ≡ other
slots_apart t one other slot seats a b =
    let most : occurrences slot t.slots ≤ 1 = elim (cases_lt slot (length t.slots + length t.free)) [
      | inl below ↦ omega (arith, seats.used slot below)
      | inr above ↦ omega (arith, seats.unused slot above)
    ] in
    slots_apart_in one other slot t.order t.slots most a b

out_of_order : (number : ℕ) (order slots : List ℕ) → slot_in number order slots ≡ None → length order ≡ length slots → occurrences number order ≡ 0
out_of_order number [] slots none even = refl
out_of_order number (n ∷ order) [] none even = absurd (omega (arith, even))
out_of_order number (n ∷ order) (x ∷ slots) none even =
    let rest = nowhere (n == number) x (slot_in number order slots) none in
    omega (arith, occurrences-front number n order, ones_other number n (eqb-false n number rest.0), out_of_order number order slots rest.1 (omega (arith, even)))

pub without_slot : (number : ℕ) (order slots : List ℕ) → occurrences number order ≡ 0 → slot_in number order slots ≡ None
without_slot number [] slots out = refl
without_slot number (n ∷ order) [] out = refl
without_slot number (n ∷ order) (x ∷ slots) out = elim (cases_Bool (n == number)) [
  | inl here ↦ absurd (omega (arith, occurrences-front number n order, ones_same number n (eqb-true n number here), out))
  | inr there ↦ rw there (without_slot number order slots (omega (arith, occurrences-front number n order, out)))
]

pub slot_where_it_stands : (t : SlotTable) (number : ℕ) → IsSeated t → (slot_of number t ≡ None) ↔ (occurrences number t.order ≡ 0)
slot_where_it_stands t number seats = (λ none. out_of_order number t.order t.slots none seats.even, λ out. without_slot number t.order t.slots out)

-- a bar that is taken in has the slot that is put beside it
slot_inserted : (number slot at : ℕ) (order slots : List ℕ) → occurrences number order ≡ 0 → at ≤ length order → length order ≡ length slots →
    slot_in number (insert order at number) (insert slots at slot) ≡ Some slot
slot_inserted number slot zero order slots out within even = rw (eq-eqb number number refl) refl
slot_inserted number slot (suc at) [] slots out within even = absurd (omega (arith, within))
slot_inserted number slot (suc at) (n ∷ order) [] out within even = absurd (omega (arith, even))
slot_inserted number slot (suc at) (n ∷ order) (x ∷ slots) out within even = elim (cases_Bool (n == number)) [
  | inl here ↦ absurd (omega (arith, occurrences-front number n order, ones_same number n (eqb-true n number here), out))
  | inr there ↦ rw there (slot_inserted number slot at order slots (omega (arith, occurrences-front number n order, out)) (omega (arith, within)) (omega (arith, even)))
]

pub slot_taken : (t t' : SlotTable) (number at : ℕ) → IsSeated t → t' ≡ seated at t → number ≡ t.made → at ≤ length t.order → slot_of number t' ≡ Some (next_slot t)
slot_taken t t' number at seats taken number_is within =
    ap (slot_of number) taken ∙ ap (λ n. slot_in n (insert t.order at t.made) (insert t.slots at (next_slot t))) number_is
    ∙ slot_inserted t.made (next_slot t) at t.order t.slots (seats.given t.made (omega arith)) within seats.even
