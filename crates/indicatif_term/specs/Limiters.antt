-- How often a target may draw. Moments are nanoseconds.
use Rattle.std.specs.Prelude.{◌≡◌, ◌<◌, ◌≤◌, Some, None, ℕ, ◌+◌, ◌-◌, ◌*◌, ◌/◌, ◌%◌, Bool, true, false, ◌&&◌, ◌||◌, nat_lt, nat_le, min, List, [], ◌∷◌, length, if◌then◌else◌}
use Rattle.std.specs.List.{last_or}

-- a limiter: `capacity` draws are in hand, and one more comes with each interval from `prev` on, up to `most`
pub record Limiter : Type 0 where
  pub interval : ℕ
  pub most : ℕ
  pub capacity : ℕ
  pub prev : ℕ

-- whether a draw is in hand, or an interval has passed
abbrev pub has_leave : Limiter → ℕ → Bool
has_leave l elapsed = nat_lt 0 l.capacity || nat_le l.interval elapsed

-- the limiter after a draw that it allowed at a moment, the given time after `prev`
abbrev pub used : Limiter → ℕ → ℕ → Limiter
used l elapsed now = record l { capacity = min l.most (l.capacity + elapsed / l.interval - 1); prev = now - elapsed % l.interval }

-- the answer, and the limiter after it; nothing is allowed before `prev`
abbrev pub allow : Limiter → ℕ → Bool × Limiter
allow l now = if nat_le l.prev now && has_leave l (now - l.prev) then (true, used l (now - l.prev) now) else (false, l)

-- how many draws may come at once
abbrev pub burst : ℕ
burst = 20

-- how often a target on standard output or standard error draws a second by default
abbrev pub default_rate : ℕ
default_rate = 20

-- a new limiter with a rate a second: a burst is in hand, and the interval is a whole number of milliseconds
abbrev pub draw_limiter : ℕ → ℕ → Limiter
draw_limiter rate making = record { interval = 1000 / rate * 1000000; most = burst; capacity = burst; prev = making }

-- the answers at moments, one after another
abbrev pub answers : Limiter → List ℕ → List Bool
answers l [] = []
answers l (now ∷ moments) = (allow l now).0 ∷ answers (allow l now).1 moments

-- the moments that a limiter allows, of moments in any order
abbrev pub allowed_moments : Limiter → List ℕ → List ℕ
allowed_moments l [] = []
allowed_moments l (now ∷ moments) = if (allow l now).0 then now ∷ allowed_moments (allow l now).1 moments else allowed_moments (allow l now).1 moments

-- a new rate limiter allows at most a burst of moments, and one more for each interval from its making to the last moment that it allowed
abbrev pub DrawsAreBounded : Type 0
DrawsAreBounded = (rate making last : ℕ) (moments : List ℕ) → 0 < rate → rate < 256 → last_or None (allowed_moments (draw_limiter rate making) moments) ≡ Some last
    → length (allowed_moments (draw_limiter rate making) moments) ≤ burst + (last - making) / (draw_limiter rate making).interval
