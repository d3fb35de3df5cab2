-- The greatest of the last places.
use Rattle.std.specs.Prelude.{ℕ, max, List, [], ◌∷◌, take, fold}

-- the greatest of some numbers, and 0 of none
abbrev pub greatest_of : List ℕ → ℕ
greatest_of = fold max 0

-- what is kept of a list of updates, the latest first: each is put in front, and all past n are dropped
abbrev pub last_updates : ℕ → List ℕ → List ℕ
last_updates n = fold (λ places place. take n (place ∷ places)) []
