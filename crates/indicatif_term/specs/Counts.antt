-- Lists of rows as an engine counts them.
use Rattle.std.specs.Prelude.{◌≡◌, ℕ, ◌+◌, List, map, length}
use Rattle.indicatif_term.specs.Lists.{Lists, BarRows, live_height}
use Rattle.indicatif_term.specs.declared.engine.counts.Counts.{Counts}
use Rattle.indicatif_term.specs.declared.engine.remembered.StandingLine.{StandingLine}

-- a bar, and how many rows it has
pub record RowCount : Type 0 where
  pub bar : ℕ
  pub rows : ℕ

-- a bar's rows by their count
abbrev pub row_count : BarRows → RowCount
row_count s = record { bar = s.bar; rows = length s.rows }

-- lines by their bars and their rows
abbrev pub line_count : StandingLine → RowCount
line_count l = record { bar = l.bar; rows = l.rows }

abbrev pub line_counts : List StandingLine → List RowCount
line_counts ls = map line_count ls

-- the counts of these lists
pub record CountsOf (c : Counts) (l : Lists) : Type 0 where
  pub kept_is : c.kept ≡ length l.kept
  pub blanks_are : c.blanks ≡ l.live.blanks
  pub live_is : c.live ≡ live_height l.live
  pub reached_is : c.reached + length l.above ≡ l.reach
  pub below_is : c.below ≡ l.below
  pub under_is : c.under ≡ l.under
