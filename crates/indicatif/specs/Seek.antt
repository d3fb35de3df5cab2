-- The position that a bar shows after moves and seeks of a reader.
use Rattle.std.specs.Prelude.{ℕ, ◌+◌, ◌-◌, ◌^◌, ◌<◌, min, List, [], ◌∷◌, take, Option, Some, None, if◌then◌else◌, fold, IfSome, nat_le}
use Rattle.indicatif.specs.Ring.{greatest_of}

-- the record of a reader's seeks
pub record Seeks : Type 0 where
  -- the last places since a seek, the latest first; none if there was no seek, or it is forgotten
  pub history : Option (List ℕ)
  -- how many moves came in a row since the last seek
  pub moves : ℕ

abbrev pub no_seeks : Seeks
no_seeks = record { history = None; moves = 0 }

-- the sum, at most 2^64 - 1
abbrev pub saturated : ℕ → ℕ → ℕ
saturated a b = min (a + b) (2 ^ 64 - 1)

-- the greatest of these places is shown, and they are remembered
abbrev pub greatest_shown : List ℕ → ℕ → ℕ × Seeks
greatest_shown places moves = (greatest_of places, record { history = Some places; moves = moves })

-- the place n after the previous one, and the record to keep: without a history, the sum; the `reset`th move in a row forgets the history; any other puts the sum into it, and the last `size` places
-- stay
abbrev pub after_move : ℕ → ℕ → Seeks → ℕ → ℕ → ℕ × Seeks
after_move reset size seeks previous n = elim seeks.history [
  | None ↦ (saturated previous n, no_seeks)
  | Some places ↦ if nat_le reset (seeks.moves + 1) then (saturated previous n, no_seeks)
      else greatest_shown (take size (saturated previous n ∷ places)) (seeks.moves + 1)
]

-- the places of a history, none without one
abbrev pub places_of : Option (List ℕ) → List ℕ
places_of None = []
places_of (Some places) = places

-- the place after a seek, and the record to keep: the place joins the history, or begins one, and the count of moves restarts
abbrev pub after_seek : ℕ → Seeks → ℕ → ℕ × Seeks
after_seek size seeks place = greatest_shown (take size (place ∷ places_of seeks.history)) 0

-- ---- lists of moves and seeks

-- a step of a reader
pub data ReaderStep : Type 0 where
  -- n bytes further
  Forward : (n : ℕ) → ReaderStep
  -- a seek to a place
  To : (place : ℕ) → ReaderStep

-- the place that is shown after a step, and the record to keep
abbrev pub after_step : ℕ → ℕ → ℕ × Seeks → ReaderStep → ℕ × Seeks
after_step reset size (at, seeks) (Forward n) = after_move reset size seeks at n
after_step reset size (at, seeks) (To place) = after_seek size seeks place

-- the place that is shown after a list of steps, and the record to keep
abbrev pub after_steps : ℕ → ℕ → ℕ × Seeks → List ReaderStep → ℕ × Seeks
after_steps reset size = fold (after_step reset size)

-- ---- how it is kept

-- the record that a history and its count of moves stand for
abbrev pub seeks_of : Option (List ℕ × ℕ) → Seeks
seeks_of None = no_seeks
seeks_of (Some (places, moves)) = record { history = Some places; moves = moves }

-- one more move can be counted in 8 bits
abbrev pub HasFewMoves : Option (List ℕ × ℕ) → Type 0
HasFewMoves history = IfSome history (λ h. h.1 < 255)
