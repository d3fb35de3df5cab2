-- What threads that work on a list in blocks make of its bar.
use Rattle.std.specs.Prelude.{◌≡◌, ℕ, ◌≤◌, ◌<◌, List, [], ◌∷◌, map, sum, Option, Result}
use Rattle.std.specs.List.{AllByRecursion}
use Rattle.indicatif_text.specs.declared.refusal.Drawn.{Drawn}
use Rattle.indicatif_text.specs.declared.refusal.Refusal.{Refusal}
use Rattle.indicatif.specs.Moves.{Standing, Goes, Move, Advance}

-- the most items of a block
abbrev pub block_length : ℕ
block_length = 4096

-- over how a bar's position is read, and the states that a move with an answer leads to
module _ {P : Type 0} (stands : P → Option Standing) (leads : P → Move → Result Drawn Refusal → P → Type 0) where
  -- advances one after another, each with its answer
  abbrev pub AdvancedAlong : List (ℕ × Result Drawn Refusal) → P → P → Type 0
  AdvancedAlong [] old new = new ≡ old
  AdvancedAlong (made ∷ others) old new =
      (between : P) × leads old (Advance made.0) made.1 between × Goes (stands old) (Advance made.0) made.1 (stands between) × AdvancedAlong others between new

  -- the bar was advanced by the given number of items in all, in blocks: none is empty or longer than the maximum
  pub record Blocks (old : P) (items : ℕ) (new : P) : Type 0 where
    pub made : List (ℕ × Result Drawn Refusal)
    pub along : AdvancedAlong made old new
    pub total : sum (map (λ x. x.0) made) ≡ items
    pub sizes : AllByRecursion (λ n. (0 < n) × (n ≤ block_length)) (map (λ x. x.0) made)
