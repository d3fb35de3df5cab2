-- The order of a board's bars by their numbers, and their slots.
use Rattle.std.specs.Prelude.{◌≡◌, ℕ, ◌+◌, ◌-◌, ◌^◌, ◌<◌, ◌≤◌, ◌==◌, List, [], ◌∷◌, ◌++◌, take, drop, get_or, length, Option, Some, None, if◌then◌else◌}
use Rattle.std.specs.List.{insert, remove}

-- bars in an order, and the free slots
pub record SlotTable : Type 0 where
  -- the bars' numbers, from the top
  pub order : List ℕ
  -- their slots, at the same places
  pub slots : List ℕ
  -- the slots without a bar, the last freed one at the end
  pub free : List ℕ
  -- how many bars were ever inserted: the next bar's number
  pub made : ℕ

-- how many bars were ever inserted, by the number of the next; no number is left after 2 ^ 64
abbrev pub made_by : Option ℕ → ℕ
made_by None = 2 ^ 64
made_by (Some number) = number

-- before the first bar
abbrev pub opening_slots : SlotTable
opening_slots = record { order = []; slots = []; free = []; made = 0 }

-- the slot that the next bar gets: the last freed one; if none is free, the first unused one
abbrev pub next_slot : SlotTable → ℕ
next_slot t = get_or t.free (length t.free - 1) (length t.slots)

-- a new bar inserted after the first `at` bars; after all others if there are fewer
abbrev pub seated : ℕ → SlotTable → SlotTable
seated at t = record {
  order = insert t.order at t.made;
  slots = insert t.slots at (next_slot t);
  free = take (length t.free - 1) t.free;
  made = t.made + 1;
}

-- the bar at a place removed, if there is one: its slot is free
abbrev pub unseated : ℕ → SlotTable → SlotTable
unseated at t = record t {
  order = remove t.order at;
  slots = remove t.slots at;
  free = t.free ++ take 1 (drop at t.slots);
}

-- the given number of bars at the head removed, one after another
abbrev pub head_unseated : ℕ → SlotTable → SlotTable
head_unseated count t = record t {
  order = drop count t.order;
  slots = drop count t.slots;
  free = t.free ++ take count t.slots;
}

-- bars at the head left, one after another, or none did
abbrev pub LeavesHead : SlotTable → SlotTable → Type 0
LeavesHead old new = (count : ℕ) × (new ≡ head_unseated count old)

-- the bar at some place left
abbrev pub LeavesFrom : SlotTable → SlotTable → Type 0
LeavesFrom old new = (at : ℕ) × (new ≡ unseated at old)

-- the slot of a bar, if that stands in the order
abbrev pub slot_in : ℕ → List ℕ → List ℕ → Option ℕ
slot_in number (n ∷ order) (slot ∷ slots) = if n == number then Some slot else slot_in number order slots
slot_in number _ _ = None

abbrev pub slot_of : ℕ → SlotTable → Option ℕ
slot_of number t = slot_in number t.order t.slots

-- how often a number stands in a list
abbrev pub occurrences : ℕ → List ℕ → ℕ
occurrences n [] = 0
occurrences n (x ∷ xs) = if x == n then 1 + occurrences n xs else occurrences n xs

-- each bar stands in the order once and has its own slot
pub record IsSeated (t : SlotTable) : Type 0 where
  pub even : length t.order ≡ length t.slots
  -- no bar stands there twice, and each was inserted
  pub apart : (number : ℕ) → occurrences number t.order ≤ 1
  pub given : (number : ℕ) → t.made ≤ number → occurrences number t.order ≡ 0
  -- each used slot either has one bar or is free; their number is that of bars and free slots
  pub used : (slot : ℕ) → slot < length t.slots + length t.free → occurrences slot t.slots + occurrences slot t.free ≡ 1
  pub unused : (slot : ℕ) → length t.slots + length t.free ≤ slot → occurrences slot t.slots + occurrences slot t.free ≡ 0
