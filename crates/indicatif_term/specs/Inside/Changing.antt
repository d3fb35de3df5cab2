-- Lines drawn over others: each stays, is edited in its last row, or is written as a whole.
use Rattle.std.specs.Prelude.{◌≡◌, true, false, ◌&&◌, ◌==◌, not, nat_lt, slice_index, ℕ, ◌+◌, ◌-◌, min, Bool, IsTrue, List, [], ◌∷◌, ◌++◌, map, length, take, drop, replicate, chars, Option, Some, None, if◌then◌else◌, ◌*◌, IsFalse, flat_map, string_bytes}
use Rattle.indicatif_text.specs.Columns.{Cell, rows_of, last_columns, width_of, columns_of, visible}
use Rattle.indicatif_term.specs.Calls.{UP, DOWN, move_bytes, clear_bytes}
use Rattle.indicatif_term.specs.Shows.{look, looks_of}
use Rattle.indicatif_term.specs.Inside.MoveBytes.{rows_down}
use Rattle.indicatif_term.specs.Inside.RowEdits.{Edit, Write, edit_columns, edit_gap, row_bytes, edited_row, Renews}
use Rattle.std.specs.List.{list_any, AllByRecursion}
use Rattle.std.specs.Int.{is_in_range}
use Rattle.indicatif_term.specs.declared.engine.remembered.StandingLine.{StandingLine}

-- a change of a line: none, or its last row is edited from a column on, or its rows are emptied and it is written
pub data LineChange : Type 0 where
  Leave : LineChange
  Within : (column : ℕ) (edits : List Edit) → LineChange
  Whole : LineChange

-- a line of a draw: its rows, the columns that it takes of the last of them, its change, and whether edits of it leave the cursor waiting at the end of its last row
pub record PlacedLine : Type 0 where
  pub line : List ℕ
  pub rows : ℕ
  pub last : ℕ
  pub change : LineChange
  pub waits : Bool

-- the number of rows of lines
abbrev pub placed_height : List PlacedLine → ℕ
placed_height [] = 0
placed_height (p ∷ ps) = p.rows + placed_height ps

abbrev pub placed_lines : List PlacedLine → List (List ℕ)
placed_lines ps = map (λ (p : PlacedLine). p.line) ps

-- ---- bytes

-- the given number of rows emptied, from the cursor's down, and up again to the first of them
abbrev pub emptied_bytes : ℕ → List ℕ
emptied_bytes n = (clear_bytes ++ rows_down (n - 1)) ++ move_bytes UP (n - 1)

-- down to a line; its rows emptied, and the line
abbrev pub changed_bytes : ℕ → ℕ → List ℕ → List ℕ
changed_bytes down rows line = move_bytes DOWN down ++ (emptied_bytes rows ++ line)

-- the bytes of a line, from a row this far above its first
abbrev pub step_bytes : LineChange → ℕ → ℕ → List ℕ → List ℕ
step_bytes Leave down rows line = []
step_bytes (Within k es) down rows line = move_bytes DOWN (down + rows - 1) ++ row_bytes k es
step_bytes Whole down rows line = changed_bytes down rows line

-- how far above the row below the line the cursor is afterwards
abbrev pub step_down : LineChange → ℕ → ℕ → ℕ
step_down Leave down rows = down + rows
step_down (Within k es) down rows = 1
step_down Whole down rows = 1

-- the bytes of lines one below another
abbrev pub walk_bytes : ℕ → List PlacedLine → List ℕ
walk_bytes down [] = []
walk_bytes down (p ∷ ps) = step_bytes p.change down p.rows p.line ++ walk_bytes (step_down p.change down p.rows) ps

abbrev pub walk_down : ℕ → List PlacedLine → ℕ
walk_down down [] = down
walk_down down (p ∷ ps) = walk_down (step_down p.change down p.rows) ps

-- all lines of a draw, from this many rows below their last one: up to the first of them, and down through them
abbrev pub frame_bytes : ℕ → List PlacedLine → List ℕ
frame_bytes below ps = move_bytes UP (placed_height ps - 1 + below) ++ walk_bytes 0 ps

-- ---- the last line of some

-- a line without an escape character that ends in printable ASCII: writing its last byte again shows the same
abbrev pub ends_plainly : List ℕ → Bool
ends_plainly line = is_in_range 0x20 0x7E (slice_index line (length line - 1)) && not (list_any (λ b. b == 0x1B) line)

-- the last byte of a line
abbrev pub last_byte : List ℕ → List ℕ
last_byte line = drop (length line - 1) line

-- a line written as a whole, with the spaces that fill its last row
abbrev pub filled_whole : ℕ → PlacedLine → PlacedLine
filled_whole w p = record p { line = p.line ++ replicate (w - p.last) 0x20; last = w; change = Whole }

-- a line whose last column is written again with this character
abbrev pub ended_by : ℕ → ℕ → PlacedLine → PlacedLine
ended_by w c p = record p { change = Within (w - 1) (Write c ∷ []) }

-- the last line, which leaves the cursor waiting at the end of its row: moves alone don't lead there, but writing the last column again does, if it is free or an ASCII character without joiners
abbrev pub ending_by : LineChange → ℕ → PlacedLine → PlacedLine
ending_by Leave w p =
    if nat_lt p.last w then ended_by w 0x20 p
    else if ends_plainly p.line then ended_by w (slice_index p.line (length p.line - 1)) p
    else filled_whole w p
ending_by (Within k es) w p = if p.waits then p else filled_whole w p
ending_by Whole w p = filled_whole w p

abbrev pub ending : ℕ → PlacedLine → PlacedLine
ending w p = ending_by p.change w p

-- its bytes, from a row this far above it
abbrev pub last_bytes : ℕ → ℕ → PlacedLine → List ℕ
last_bytes w down p = let q = ending w p in step_bytes q.change down q.rows q.line

-- ---- the old rows

-- edits lead from the old rows of a line to the line: all its rows but the last look the same, and the edits make its last
pub record EditsLead (w k : ℕ) (es : List Edit) (stood : List (List Cell)) (line : List ℕ) : Type 0 where
  pub front : List (List Cell)
  pub before : List Cell
  pub afterwards : List Cell
  pub stood_is : stood ≡ looks_of (front ++ before ∷ [])
  pub line_is : rows_of w (chars line) ≡ front ++ afterwards ∷ []
  pub renews : (r : List Cell) → map look r ≡ map look before → Renews w k es r afterwards

-- rows that look like these become those of the line
abbrev pub Becomes : ℕ → LineChange → List (List Cell) → List ℕ → Type 0
Becomes w Leave stood line = stood ≡ looks_of (rows_of w (chars line))
Becomes w (Within k es) stood line = EditsLead w k es stood line
Becomes w Whole stood line = Unit {0}

-- a change leaves the cursor waiting at the end of the line's last row
abbrev pub Ends : ℕ → LineChange → List ℕ → Type 0
Ends w Leave line = ⊥
Ends w (Within k es) line = (k + edit_columns es ≡ w) × (edit_gap k es ≡ 0)
Ends w Whole line = last_columns w (chars line) ≡ w

-- a line agrees with its measures, and replaces rows that look like these
pub record Sits (w : ℕ) (looks : List (List Cell)) (p : PlacedLine) : Type 0 where
  pub rows_are : p.rows ≡ length (rows_of w (chars p.line))
  pub last_is : p.last ≡ last_columns w (chars p.line)
  pub becomes : Becomes w p.change (take p.rows looks) p.line
  pub waiting : IsTrue p.waits → Ends w p.change p.line

-- the bytes of lines one below another
abbrev pub AreSitting : ℕ → List (List Cell) → List PlacedLine → Type 0
AreSitting w looks [] = Unit {0}
AreSitting w looks (p ∷ ps) = Sits w looks p × AreSitting w (drop p.rows looks) ps

-- the rows of a line after its change, over these
abbrev pub step_rows : ℕ → LineChange → ℕ → List ℕ → List (List Cell) → List (List Cell)
step_rows w Leave rows line old = take rows old
step_rows w (Within k es) rows line old = take (rows - 1) old ++ map (edited_row k es) (take 1 (drop (rows - 1) old))
step_rows w Whole rows line old = rows_of w (chars line)

abbrev pub walk_rows : ℕ → List PlacedLine → List (List Cell) → List (List Cell)
walk_rows w [] old = []
walk_rows w (p ∷ ps) old = step_rows w p.change p.rows p.line old ++ walk_rows w ps (drop p.rows old)

-- ---- all lines of a draw, from the last row of those that they replace

-- whether all lines stay
abbrev pub stays : LineChange → Bool
stays Leave = true
stays (Within k es) = false
stays Whole = false

abbrev pub all_stay : List PlacedLine → Bool
all_stay [] = true
all_stay (p ∷ ps) = stays p.change && all_stay ps

-- lines of which the last one leaves the cursor waiting at the end of its row
abbrev pub ended : ℕ → List PlacedLine → List PlacedLine
ended w [] = []
ended w (p ∷ []) = ending w p ∷ []
ended w (p ∷ q ∷ ps) = p ∷ ended w (q ∷ ps)

-- lines in the rows above this many erased ones; nothing if all stay and no row was erased
abbrev pub among_bytes : ℕ → ℕ → List PlacedLine → List ℕ
among_bytes w taken [] = []
among_bytes w taken (p ∷ ps) = if (taken == 0) && all_stay (p ∷ ps) then [] else frame_bytes (min taken 1) (ended w (p ∷ ps))

-- the columns that are free behind a line, if there is one
abbrev pub free_behind : ℕ → Option PlacedLine → ℕ
free_behind w None = 0
free_behind w (Some p) = w - p.last

-- a line with the spaces that fill its last row
abbrev pub filled_bytes : ℕ → PlacedLine → List ℕ
filled_bytes w p = p.line ++ replicate (w - p.last) 0x20

-- lines, one after another, each with the spaces that fill its last row
abbrev pub run_bytes : ℕ → List PlacedLine → List ℕ
run_bytes w ps = flat_map (filled_bytes w) ps

-- from the last of these rows up to the front of the first, or to the front of the cursor's row; and the lines
abbrev pub moved_bytes : ℕ → ℕ → List PlacedLine → List ℕ
moved_bytes w taken ps = move_bytes UP (taken - 1) ++ ((0x0D ∷ []) ++ run_bytes w ps)

-- whether the first of these characters would join one before it
abbrev pub joins : List ℕ → Bool
joins [] = false
joins (c ∷ cs) = width_of c == 0

-- a line whose rows but the last are full, and which joins no line before it
pub record IsEven (w : ℕ) (l : StandingLine) : Type 0 where
  pub columns_are : columns_of (chars (string_bytes l.text)) ≡ (l.rows - 1) * w + l.last
  pub alone : IsFalse (joins (visible (chars (string_bytes l.text))))

abbrev pub AreEven : ℕ → List StandingLine → Type 0
AreEven w ls = AllByRecursion (IsEven w) ls
