-- What long division finds, for the functions behind `HumanFloatCount`.
use Rattle.std.specs.Prelude.{◌≡◌, ℕ, ◌+◌, ◌*◌, ◌/◌, ◌%◌, ◌^◌, ◌<◌, ◌⊎◌, Bool, true, if◌then◌else◌}

-- num / den to the given number of decimals, rounded down
unfoldable pub below : ℕ → ℕ → ℕ → ℕ
below num den places = num * 10 ^ places / den

-- the number, or the next one
abbrev pub raised : Bool → ℕ → ℕ
raised up n = if up then n + 1 else n

-- a last decimal that is raised isn't 9
abbrev pub NeedsNoCarry : Bool → ℕ → ℕ → ℕ → Type 0
NeedsNoCarry up num den places = up ≡ true → (places ≡ 0) ⊎ (below num den places % 10 < 9)
