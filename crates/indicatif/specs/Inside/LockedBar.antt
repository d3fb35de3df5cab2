-- How many owners a shared bar has.
use Rattle.std.specs.Prelude.{◌≡◌, ◌≢◌, ◌⊎◌, ℕ, ◌+◌, ◌-◌, ◌<◌, ◌^◌, Bool, true, false}

-- one more owner was requested: there is one more; or there was no owner left, or the count is at its maximum, and it is unchanged
abbrev pub OwnerJoins : Bool → ℕ → ℕ → Type 0
OwnerJoins true before now = (0 < before) × (now ≡ before + 1) × (now < 2 ^ 64)
OwnerJoins false before now = ((before ≡ 0) ⊎ (before ≡ 2 ^ 64 - 1)) × (now ≡ before)

-- one owner is gone, and whether it was the last
abbrev pub OwnerLeaves : Bool → ℕ → ℕ → Type 0
OwnerLeaves true before now = (before ≡ 1) × (now ≡ 0)
OwnerLeaves false before now = (before ≢ 1) × (now ≡ before - 1)
