-- Where two lines of one row differ, so that only the rest is written.
use Rattle.std.specs.Prelude.{◌≡◌, ℕ, ◌+◌, ◌<◌, ◌≤◌, ◌++◌, Bool, false, IsTrue, List, [], map, drop, length, chars, IsCharBoundary}
use Rattle.std.specs.List.{AllByRecursion}
use Rattle.indicatif_text.specs.Columns.{Cell, visible, rows_of}
use Rattle.indicatif_term.specs.Shows.{looks_of}
use Rattle.indicatif_term.specs.Inside.RowEdits.{Edit, Tails, IsNarrowChar, plan, repainted, edit_colours}
use Rattle.indicatif_term.specs.Inside.Inks.{Inked, IsRead, NONE, in_colours, as_painted, painted, read, padded}
use Rattle.indicatif_term.specs.Inside.Changing as drawn
use Rattle.indicatif_term.specs.declared.engine.comparing.Stretch.{Stretch}
use Rattle.indicatif_term.specs.declared.engine.comparing.Step.{Step}
use Rattle.indicatif_term.specs.declared.engine.comparing.Step.TheVariants as steps

-- the characters of a text from one of its bytes on
abbrev pub tail : ℕ → List ℕ → List ℕ
tail from text = chars (drop from text)

-- the cells of a text from one of its bytes on
abbrev pub cells_at : ℕ → List ℕ → List Inked
cells_at from text = read NONE (tail from text)

-- edits of the cells of a line from one of its bytes on show each character of another in its colours, and leave none open: before that place the two are the same, without colours
pub record IsRecoloured (from n : ℕ) (es : List Edit) (old new : List ℕ) : Type 0 where
  pub front : List ℕ
  pub old_is : painted (chars old) ≡ map (in_colours []) front ++ map as_painted (cells_at from old)
  pub new_is : painted (chars new) ≡ map (in_colours []) front ++ map as_painted (cells_at from new)
  pub cells : repainted [] es (map as_painted (padded n (cells_at from old))) ≡ map as_painted (padded n (cells_at from new))
  pub none_open : edit_colours [] es ≡ []

-- the edits of a part
abbrev pub part_edits : Stretch → List ℕ → List ℕ → List Edit
part_edits p old new = plan p.waits NONE (padded p.left (cells_at p.from old)) (padded p.left (cells_at p.from new))

-- two lines of one row differ from here on; if the cursor has to wait at the row's end, they differ from some column of it to its end
pub record Parted (w : ℕ) (waits : Bool) (old new : List ℕ) (p : Stretch) : Type 0 where
  pub waits_is : p.waits ≡ waits
  pub own : IsCharBoundary old p.from
  pub other : IsCharBoundary new p.from
  pub tails : Tails w p.gap p.left (chars old) (chars new)
  pub olds_are : tails.olds ≡ visible (tail p.from old)
  pub news_are : tails.news ≡ visible (tail p.from new)
  pub narrow : AllByRecursion IsNarrowChar tails.news
  pub to_end : IsTrue waits → (p.gap + p.left ≡ w) × (0 < p.left)
  pub last_is : p.last ≡ p.gap + length (visible (tail p.from new))
  pub read : IsRead (chars new)
  pub colours : IsRecoloured p.from p.left (part_edits p old new) old new

-- what is written from there on fits in its row
pub record HasPart (p : Stretch) (old new : List ℕ) : Type 0 where
  pub small : p.gap + p.left ≤ 65535
  pub own : IsCharBoundary old p.from
  pub other : IsCharBoundary new p.from
  pub olds : length (cells_at p.from old) ≤ p.left
  pub news : length (cells_at p.from new) ≤ p.left

-- the change of a line that replaces another
abbrev pub change_of : Step → List ℕ → List ℕ → drawn.LineChange
change_of steps.Leave old new = drawn.Leave
change_of (steps.Within p) old new = drawn.Within p.gap (part_edits p old new)
change_of steps.Whole old new = drawn.Whole

-- whether it leaves the cursor waiting at the end of the line's last row, if it edits that
abbrev pub waits_of : Step → Bool
waits_of steps.Leave = false
waits_of (steps.Within p) = p.waits
waits_of steps.Whole = false

-- a line that is edited has its colours
abbrev pub HasColours : Step → List ℕ → List ℕ → Type 0
HasColours steps.Leave old new = Unit {0}
HasColours (steps.Within p) old new = IsRecoloured p.from p.left (part_edits p old new) old new
HasColours steps.Whole old new = Unit {0}

-- the step can be written
abbrev pub IsReady : Step → List ℕ → List ℕ → Type 0
IsReady steps.Leave old new = Unit {0}
IsReady (steps.Within p) old new = HasPart p old new
IsReady steps.Whole old new = Unit {0}

-- a line becomes another by a step: from rows that look like its own
pub record IsTurned (w : ℕ) (step : Step) (old new : List ℕ) : Type 0 where
  pub becomes : (stood : List (List Cell)) → stood ≡ looks_of (rows_of w (chars old)) → drawn.Becomes w (change_of step old new) stood new
  pub ready : IsReady step old new
  pub waiting : IsTrue (waits_of step) → drawn.Ends w (change_of step old new) new
  pub colours : HasColours step old new
