-- Bars that leave the order give their slots up, and each other bar keeps the one that it has.
use Rattle.std.proofs.Common.{◌≡◌, ℕ, zero, suc, ◌+◌, ◌≤◌, List, [], ◌∷◌, ◌++◌, take, drop, length, Some, refl, sym, ◌∙◌, ap, subst, arith, append_assoc, inl, inr, if◌then◌else◌}
use Rattle.std.specs.Prelude.{◌==◌, ◌≢◌}
use Rattle.std.specs.List.{insert, remove}
use Rattle.std.proofs.lemmas.Bool.{cases_Bool, eqb-true, ne_eqb}
use Rattle.std.proofs.lemmas.List.{append-nil, drop-drop}
use Rattle.indicatif_board.specs.Slots.{SlotTable, IsSeated, LeavesHead, next_slot, seated, unseated, head_unseated, slot_in, slot_of, occurrences}
use Rattle.indicatif_board.proofs.SlotLemmas.{ones_same, occurrences-front, occurrences-cut}
use Rattle.indicatif_board.proofs.SeatLemmas.{found, without_slot}

-- ---- none, some and then more

take-nothing : (j : ℕ) → take {A = ℕ} j [] ≡ []
take-nothing zero = refl
take-nothing (suc j) = refl

pub none_left : (t : SlotTable) → LeavesHead t t
none_left t = (0, sym (ap (λ free. record t { free = free }) (append-nil t.free)))

take-more : (k j : ℕ) (xs : List ℕ) → take k xs ++ take j (drop k xs) ≡ take (k + j) xs
take-more zero j xs = let e : j ≡ 0 + j = omega arith in ap (λ n. take n xs) e
take-more (suc k) j [] = let e : suc k + j ≡ suc (k + j) = omega arith in take-nothing j ∙ ap (λ n. take n []) (sym e)
take-more (suc k) j (x ∷ xs) =
    let e : suc (k + j) ≡ suc k + j = omega arith in
    ap (λ ys. x ∷ ys) (take-more k j xs) ∙ ap (λ n. take n (x ∷ xs)) e

table : List ℕ → List ℕ → List ℕ → ℕ → SlotTable
table order slots free made = record { order = order; slots = slots; free = free; made = made }

pub more_left : (a b c : SlotTable) → LeavesHead a b → LeavesHead b c → LeavesHead a c
unfolding table
more_left a b c first next =
    let k = first.0 in
    let j = next.0 in
    let free = append_assoc a.free (take k a.slots) (take j (drop k a.slots)) ∙ ap (λ xs. a.free ++ xs) (take-more k j a.slots) in
    let same : table (drop j (drop k a.order)) (drop j (drop k a.slots)) ((a.free ++ take k a.slots) ++ take j (drop k a.slots)) a.made ≡ head_unseated (k + j) a =
    ap (λ xs. table xs (drop j (drop k a.slots)) ((a.free ++ take k a.slots) ++ take j (drop k a.slots)) a.made) (drop-drop j k a.order)
    ∙ ap (λ xs. table (drop (k + j) a.order) xs ((a.free ++ take k a.slots) ++ take j (drop k a.slots)) a.made) (drop-drop j k a.slots)
    ∙ ap (λ xs. table (drop (k + j) a.order) (drop (k + j) a.slots) xs a.made) free in
    (k + j, next.1 ∙ ap (head_unseated j) first.1 ∙ same)

-- none, where the slots are the same; and where they were the same before
pub same_left : (a b : SlotTable) → b ≡ a → LeavesHead a b
same_left a b e = subst (LeavesHead a) (sym e) (none_left a)

-- the first one alone
pub first_left : (a b : SlotTable) → b ≡ unseated 0 a → LeavesHead a b
first_left a b e = (1, e)

-- ---- each other bar's slot

no_slot : (number slot : ℕ) (order : List ℕ) → slot_in number order [] ≡ Some slot → ⊥
no_slot number slot [] e = cc e
no_slot number slot (n ∷ order) e = cc e

slot_behind : (number slot count : ℕ) (order slots : List ℕ) → occurrences number order ≤ 1 → slot_in number (drop count order) (drop count slots) ≡ Some slot →
    slot_in number order slots ≡ Some slot
slot_behind number slot zero order slots once e = e
slot_behind number slot (suc count) [] slots once e = absurd (cc e)
slot_behind number slot (suc count) (n ∷ order) [] once e = absurd (no_slot number slot (drop count order) e)
slot_behind number slot (suc count) (n ∷ order) (x ∷ slots) once e = elim (cases_Bool (n == number)) [
  | inl here ↦
      let out : occurrences number (drop count order) ≡ 0 =
      omega (arith, once, occurrences-front number n order, ones_same number n (eqb-true n number here), occurrences-cut number count order) in
      absurd (cc (sym (without_slot number (drop count order) (drop count slots) out) ∙ e))
  | inr there ↦ rw there (slot_behind number slot count order slots (omega (arith, once, occurrences-front number n order)) e)
]

pub slot_behind_head : (t : SlotTable) (count number slot : ℕ) → IsSeated t → slot_of number (head_unseated count t) ≡ Some slot → slot_of number t ≡ Some slot
slot_behind_head t count number slot seats e = slot_behind number slot count t.order t.slots (seats.apart number) e

slot_beside : (number slot at : ℕ) (order slots : List ℕ) → occurrences number order ≤ 1 → slot_in number (remove order at) (remove slots at) ≡ Some slot →
    slot_in number order slots ≡ Some slot
slot_beside number slot zero order slots once e = slot_behind number slot 1 order slots once e
slot_beside number slot (suc at) [] slots once e = absurd (cc e)
slot_beside number slot (suc at) (n ∷ order) [] once e = absurd (cc e)
slot_beside number slot (suc at) (n ∷ order) (x ∷ slots) once e = elim (found (n == number) x slot (slot_in number (remove order at) (remove slots at)) e) [
  | inl here ↦ rw here.0 (ap Some here.1)
  | inr there ↦ rw there.0 (slot_beside number slot at order slots (omega (arith, once, occurrences-front number n order)) there.1)
]

pub slot_beside_gone : (t : SlotTable) (at number slot : ℕ) → IsSeated t → slot_of number (unseated at t) ≡ Some slot → slot_of number t ≡ Some slot
slot_beside_gone t at number slot seats e = slot_beside number slot at t.order t.slots (seats.apart number) e

slot_around : (number made slot at : ℕ) (order slots : List ℕ) → made ≢ number → length order ≡ length slots →
    slot_in number (insert order at made) (insert slots at slot) ≡ slot_in number order slots
slot_around number made slot zero order slots other even = rw (ne_eqb made number other) refl
slot_around number made slot (suc at) [] [] other even = rw (ne_eqb made number other) refl
slot_around number made slot (suc at) [] (x ∷ slots) other even = absurd (omega (arith, even))
slot_around number made slot (suc at) (n ∷ order) [] other even = absurd (omega (arith, even))
slot_around number made slot (suc at) (n ∷ order) (x ∷ slots) other even =
    ap (λ r. if n == number then Some x else r) (slot_around number made slot at order slots other (omega (arith, even)))

pub slot_around_new : (t : SlotTable) (at number : ℕ) → IsSeated t → t.made ≢ number → slot_of number (seated at t) ≡ slot_of number t
slot_around_new t at number seats other = slot_around number t.made (next_slot t) at t.order t.slots other seats.even
