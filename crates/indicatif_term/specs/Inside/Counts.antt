-- Counts without kept rows that have scrolled away.
use Rattle.std.specs.Prelude.{◌≡◌, ℕ, Bool, ◌+◌, ◌-◌, min, max, ◌&&◌, ◌==◌, nat_lt, ◌⊎◌, ◌<◌, ◌≤◌, IsTrue, IsFalse}
use Rattle.indicatif_term.specs.declared.engine.counts.Counts.{Counts}
use Rattle.indicatif_term.specs.declared.engine.counts.Fresh.{Fresh}

-- the counts after kept rows that have scrolled away joined those above
pub record SettledCounts (reached h kept blanks live : ℕ) (under : Bool) (c : Counts) : Type 0 where
  pub kept_is : c.kept ≡ kept - min (max reached (kept + live) - h) kept
  pub blanks_are : c.blanks ≡ blanks
  pub live_is : c.live ≡ live
  pub reached_is : c.reached ≡ max reached (kept + live) - min (max reached (kept + live) - h) kept
  pub below_is : c.below ≡ ((live == 0) && nat_lt c.kept c.reached)
  pub under_is : c.under ≡ (under && nat_lt (max reached (kept + live)) h)

-- the counts after the blank rows and this many live ones below them passed to kept
pub record IsPassed (old : Counts) (rows : ℕ) (new : Counts) : Type 0 where
  pub kept_is : new.kept ≡ old.kept + (old.blanks + rows)
  pub blanks_are : new.blanks ≡ 0
  pub live_is : new.live + (old.blanks + rows) ≡ old.live
  pub reached_is : new.reached ≡ old.reached
  pub below_is : new.below ≡ old.below
  pub under_is : new.under ≡ old.under

-- the cursor is on the last of the rows above, and none is kept or live
pub record IsAtop (c : Counts) : Type 0 where
  pub none : c.kept + c.live ≡ 0
  pub on_row : IsFalse c.below

-- the rows that weren't reached, up to the given end, counted from the first kept one, in a window of h rows
pub record IsFresh (c : Counts) (end h : ℕ) (f : Fresh) : Type 0 where
  -- how far the last row that was reached is below the cursor's
  pub from_below : 0 < f.rows → IsTrue c.below → f.down + (c.kept + c.live) + 1 ≡ c.reached
  pub from_row : 0 < f.rows → IsFalse c.below → f.down + (c.kept + c.live) ≡ c.reached
  pub few : c.reached + f.rows ≤ max c.reached end
  -- the cursor's row stays in the window
  pub low : 0 < f.rows → c.reached + f.rows ≤ h
  pub low_atop : 0 < f.rows → IsAtop c → c.reached + f.rows < h
  -- if anything may stand in them: all of these rows, or all of the window
  pub all : IsTrue c.under → (end ≤ c.reached + f.rows) ⊎ (h ≤ c.reached + f.rows) ⊎ (IsAtop c × (h ≤ c.reached + f.rows + 1))
