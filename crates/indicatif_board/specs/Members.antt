-- The members of a board, in their order: bars by their numbers, without repeats.
use Rattle.std.specs.Prelude.{ℕ, Bool, true, false, not, ◌==◌, List, [], ◌∷◌, map, drop, if◌then◌else◌}
use Rattle.std.specs.List.{remove, position_or_len, prefix_len}
use Rattle.indicatif_term.specs.Lists.{BarLines}

-- a bar on a board
pub record Member (B : Type 0) : Type 0 where
  pub number : ℕ
  pub bar : B
  -- its last laid-out lines, as characters
  pub stored : List (List ℕ)
  -- whether its owner is gone
  pub dropped : Bool

module _ {B : Type 0} where
  -- a bar that was never drawn
  abbrev pub new_member : ℕ → B → Member B
  new_member number bar = record { number = number; bar = bar; stored = []; dropped = false }

  -- ---- the order

  -- the numbers, from the top
  abbrev pub order_of : List (Member B) → List ℕ
  order_of members = map (λ m. m.number) members

  -- how many members stand before a bar; all of them if it is no member
  abbrev pub place_of : ℕ → List (Member B) → ℕ
  place_of number members = position_or_len (λ m. m.number == number) members

  -- whether a bar is a member and has its owner
  abbrev pub is_member : ℕ → List (Member B) → Bool
  is_member number [] = false
  is_member number (m ∷ ms) = if m.number == number then not m.dropped else is_member number ms

  -- the members without a bar
  abbrev pub without : ℕ → List (Member B) → List (Member B)
  without number members = remove members (place_of number members)

  -- whether a bar is the first
  abbrev pub is_head : ℕ → List (Member B) → Bool
  is_head number [] = false
  is_head number (m ∷ ms) = m.number == number

  -- ---- a member

  -- the members, with the one of this number changed
  abbrev pub changed_at : ℕ → (Member B → Member B) → List (Member B) → List (Member B)
  changed_at number f [] = []
  changed_at number f (m ∷ ms) = if m.number == number then f m ∷ ms else m ∷ changed_at number f ms

  -- the members, with this bar's owner gone
  abbrev pub ownerless : ℕ → List (Member B) → List (Member B)
  ownerless number members = changed_at number (λ m. record m { dropped = true }) members

  -- ---- the dropped members at the head

  -- how many there are
  abbrev pub leaders : List (Member B) → ℕ
  leaders members = prefix_len (λ m. m.dropped) members

  -- the members without them
  abbrev pub followers : List (Member B) → List (Member B)
  followers members = drop (leaders members) members

  -- ---- the frame

  -- the stored lines of the members in their order
  abbrev pub frame_of : List (Member B) → List BarLines
  frame_of members = map (λ m. record { bar = m.number; lines = m.stored }) members

-- a function of the bar with a number; a default if it isn't there
abbrev pub said_of : {B X : Type 0} → X → (B → X) → ℕ → List (Member B) → X
said_of other f number [] = other
said_of other f number (m ∷ ms) = if m.number == number then f m.bar else said_of other f number ms
