-- Bytes at a rate. Moments are nanoseconds.
use Rattle.std.specs.Prelude.{ℕ, ◌+◌, ◌-◌, ◌*◌, ◌/◌, ◌^◌, min, max}

-- how many of the wanted bytes may be sent at once: what a twentieth of a second allows, and at least one
abbrev pub piece_of : ℕ → ℕ → ℕ
piece_of rate wanted = min wanted (max (rate / 20) 1)

-- when more may be sent after bytes that were sent now: their time later, from when the bytes before were due, or from a tenth of a second ago if that is later; at most 2^64 - 1
abbrev pub due_after : ℕ → ℕ → ℕ → ℕ → ℕ
due_after rate due count now = min (max due (now - 100_000_000) + min (count * 1_000_000_000) (2 ^ 64 - 1) / rate) (2 ^ 64 - 1)
