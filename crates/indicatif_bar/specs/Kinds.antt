-- What a lone bar or a board needs to know of its bars; how often it may draw, and what a draw writes.
use Rattle.std.specs.Prelude.{ℕ, Bool, true, false, nat_lt, List, [], ◌++◌, length, drop, Option, Some}
use Rattle.indicatif_text.specs.declared.refusal.Refusal.{Refusal}
use Rattle.indicatif_term.specs.Lists.{Lists, BarLines, drawn, logged, cleared}
use Rattle.indicatif_term.specs.Lines.{all_lines}
use Rattle.indicatif_bar.specs.declared.ask.Ask.{Ask}
use Rattle.indicatif_bar.specs.declared.ask.Ask.TheVariants.{Unforced}
use Rattle.indicatif_term.specs.Limiters.{Limiter, allow}
use Rattle.indicatif_bar.specs.Machines.{Target}

-- ---- bars

-- a kind of bars with its commands
pub record Kind (B C : Type 0) : Type 0 where
  -- why a command is refused at once at a moment, with nothing changed, if it is
  pub refused : C → B → ℕ → Option Refusal
  -- whether it takes memory for a text, before anything changes
  pub takes : C → B → ℕ → Bool
  -- the bar after a command, and the draw that it asks for
  pub after : C → B → ℕ → B × Ask
  -- the lines of a bar at a moment, on a terminal of the given width; and whether laying them out takes memory
  pub lines : B → ℕ → ℕ → List (List ℕ)
  pub lays : B → Bool

-- ---- how often it is drawn

-- whether the limiter allows a draw at a moment, and the limiter afterwards; a forced draw doesn't ask it, and there may be none
abbrev pub asked_of : Ask → ℕ → Option Limiter → Bool × Option Limiter
asked_of Unforced now (Some limiter) = let answer = allow limiter now in (answer.0, Some answer.1)
asked_of ask now limiter = (true, limiter)

-- ---- what a draw writes

-- the lines of the bars; a text, which stays, and the bars below it; or nothing, in place of the old rows
pub data Writing : Type 0 where
  Frame : Writing
  TextAndFrame : (text : List (List ℕ)) → Writing
  NoFrame : Writing

-- all lines that are laid out for it, if the given number of bars at the head of the frame are gone: below a text those are left out
abbrev pub lines_to_write : Writing → ℕ → List BarLines → List (List ℕ)
lines_to_write Frame gone frame = all_lines frame
lines_to_write (TextAndFrame text) gone frame = text ++ all_lines (drop gone frame)
lines_to_write NoFrame gone frame = []

-- whether a frame has a line
abbrev pub has_line : List BarLines → Bool
has_line frame = nat_lt 0 (length (all_lines frame))

-- whether planning their rows takes memory: yes, for a frame that has a line
abbrev pub rows_take : Writing → ℕ → List BarLines → Bool
rows_take Frame gone frame = has_line frame
rows_take (TextAndFrame text) gone frame = has_line (drop gone frame)
rows_take NoFrame gone frame = false

-- the lists afterwards, with the bars at the bottom or not; in a frame the bars that are gone are drawn once more, and their rows kept
abbrev pub written_lists : Writing → Target → Bool → ℕ → List BarLines → Lists → Lists
written_lists Frame target bottom gone frame l = drawn target.columns target.rows bottom gone frame l
written_lists (TextAndFrame text) target bottom gone frame l = logged target.columns target.rows bottom text (drop gone frame) l
written_lists NoFrame target bottom gone frame l = cleared l
