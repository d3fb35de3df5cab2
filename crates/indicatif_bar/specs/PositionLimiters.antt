-- How often a new position counts as a tick. Moments are nanoseconds; the limiter counts them from its making.
use Rattle.std.specs.Prelude.{ℕ, ◌-◌, Bool, true, false, ◌&&◌, nat_le, if◌then◌else◌}
use Rattle.indicatif_term.specs.Limiters.{Limiter, has_leave, used}

pub record PositionLimiter : Type 0 where
  pub making : ℕ
  pub limiter : Limiter

-- a new limiter: 10 looks in hand, and one more for each millisecond
abbrev pub position_limiter : ℕ → PositionLimiter
position_limiter making = record { making = making; limiter = record { interval = 1000000; most = 10; capacity = 10; prev = 0 } }

-- the answer, and the limiter after it: nothing is allowed before the making, and at a moment before `prev` no time has passed
abbrev pub allow_position : PositionLimiter → ℕ → Bool × PositionLimiter
allow_position p now =
    let at = now - p.making in
    let elapsed = at - p.limiter.prev in
    if nat_le p.making now && has_leave p.limiter elapsed then (true, record p { limiter = used p.limiter elapsed at }) else (false, p)

-- the limiter after a reset: no time has passed, and the looks in hand stay
abbrev pub position_reset : PositionLimiter → ℕ → PositionLimiter
position_reset p now = record p { limiter = record p.limiter { prev = now - p.making } }
