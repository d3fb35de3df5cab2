-- The lines that an engine remembers.
use Rattle.std.specs.Prelude.{◌≡◌, ℕ, ◌<◌, Bool, true, nat_lt, IsTrue, List, ◌++◌, map, take, drop, replicate}
use Rattle.std.specs.List.{list_all}
use Rattle.indicatif_text.specs.Columns.{Cell}
use Rattle.indicatif_term.specs.Lists.{Lists, Live, BarRows, live_rows, grouped, forgotten_lists}
use Rattle.indicatif_term.specs.Counts.{CountsOf, RowCount, row_count, line_counts}
use Rattle.indicatif_term.specs.Standing.{standing_rows}
use Rattle.indicatif_term.specs.declared.engine.counts.Counts.{Counts}
use Rattle.indicatif_term.specs.declared.engine.remembered.Remembered.{Remembered}
use Rattle.indicatif_term.specs.declared.engine.remembered.StandingLine.{StandingLine}

-- the remembered lines of kept rows, and those of the live ones
abbrev pub kept_lines : Remembered → List StandingLine
kept_lines r = take r.kept r.lines

abbrev pub live_lines : Remembered → List StandingLine
live_lines r = drop r.kept r.lines

-- the rows of these lines are the last ones above the live rows, and the live ones
pub record AreStanding (w : ℕ) (r : Remembered) (l : Lists) : Type 0 where
  pub front : List (List Cell)
  pub above_is : front ++ standing_rows w (kept_lines r) ≡ l.above ++ l.kept
  pub live_is : standing_rows w (live_lines r) ≡ live_rows w l.live

-- remembered lines stand
abbrev pub AreRemembered : Remembered → Lists → Type 0
AreRemembered r l = 0 < r.width → AreStanding r.width r l

abbrev pub has_row : RowCount → Bool
has_row c = nat_lt 0 c.rows

-- lines with these counts are those of live rows, on a terminal of any width: blank ones, then those of the bars, each of some rows
pub record AreOwned (cs : List RowCount) (live : Live) : Type 0 where
  pub blank : map (λ (c : RowCount). c.rows) (take live.blanks cs) ≡ replicate live.blanks 1
  pub parts : List BarRows
  pub parts_are : map row_count parts ≡ drop live.blanks cs
  pub segments_are : live.segments ≡ grouped parts
  pub some : list_all has_row (drop live.blanks cs) ≡ true

-- rows are as many, of the same bars, as those of the lists; after a failure of the terminal there are none; and the remembered lines are those of their last rows
pub record Suits (counts : Counts) (failed : Bool) (shown : Remembered) (l : Lists) : Type 0 where
  pub counted : CountsOf counts l
  pub failed_is : failed ≡ l.failed
  pub forgets : IsTrue l.failed → l ≡ forgotten_lists
  pub remembered : AreRemembered shown l
  pub owned : AreOwned (line_counts (live_lines shown)) l.live
