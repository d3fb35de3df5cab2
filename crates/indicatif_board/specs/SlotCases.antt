-- Worked cases of bars in an order and their slots.
use Rattle.std.specs.Prelude.{◌≡◌, [], ◌∷◌, Some, None}
use Rattle.indicatif_board.specs.Slots.{SlotTable, opening_slots, seated, unseated, head_unseated, slot_of}

-- three bars, each inserted after the others
abbrev pub three : SlotTable
three = seated 2 (seated 1 (seated 0 opening_slots))

-- the second one leaves; the next bar gets its slot, at the top of the order, and the one after that a new slot, at the end
abbrev pub one_left : SlotTable
one_left = seated 9 (seated 0 (unseated 1 three))

abbrev pub UsedAgain : Type 0
UsedAgain = one_left ≡ record { order = 3 ∷ 0 ∷ 2 ∷ 4 ∷ []; slots = 1 ∷ 0 ∷ 2 ∷ 3 ∷ []; free = []; made = 5 }

-- the first two leave one after another: the slot of the second is used before that of the first
abbrev pub FreedLastFirst : Type 0
FreedLastFirst = seated 0 (head_unseated 2 three) ≡ record { order = 3 ∷ 2 ∷ []; slots = 1 ∷ 2 ∷ []; free = 0 ∷ []; made = 4 }

-- a bar that isn't there has none
abbrev pub EachItsOwn : Type 0
EachItsOwn = (slot_of 3 one_left ≡ Some 1) × (slot_of 4 one_left ≡ Some 3) × (slot_of 1 one_left ≡ None)
