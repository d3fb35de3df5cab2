-- A bar on its way along a list.
use Rattle.std.specs.Prelude.{ℕ, Option, Result}
use Rattle.indicatif_text.specs.declared.refusal.Drawn.{Drawn}
use Rattle.indicatif_text.specs.declared.refusal.Refusal.{Refusal}
use Rattle.indicatif.specs.Moves.{Standing, Move}
use Rattle.indicatif.specs.Parallel.{Blocks}

module _ {P : Type 0} (stands : P → Option Standing) (leads : P → Move → Result Drawn Refusal → P → Type 0) where
  -- from wherever a bar began: if it had advanced over n items to the first state in blocks, it has advanced over m items to the second in blocks
  abbrev pub GoesOn : ℕ → P → ℕ → P → Type 0
  GoesOn from old to new = (start : P) → Blocks stands leads start from old → Blocks stands leads start to new
