-- The spaces that fill the last row of a draw.
use Rattle.std.specs.Prelude.{ℕ, ◌-◌, Bool, true, false, List, [], ◌∷◌, chars, Option, Some, None}
use Rattle.indicatif_text.specs.Columns.{last_columns}

-- the last element of a list
abbrev pub last_of : {A : Type 0} → List A → Option A
last_of [] = None
last_of (x ∷ []) = Some x
last_of (x ∷ y ∷ xs) = last_of (y ∷ xs)

-- the bytes of a line, or none
abbrev pub line_or_none : Option (List ℕ) → List ℕ
line_or_none None = []
line_or_none (Some line) = line

-- the last of these lines, or an empty one
abbrev pub last_or_none : List (List ℕ) → List ℕ
last_or_none lines = line_or_none (last_of lines)

-- the columns that a line takes of its last row
abbrev pub line_end : ℕ → List ℕ → ℕ
line_end w line = last_columns w (chars line)

-- how many spaces fill a row of w columns, by the columns that are taken: none if there is no row, or the cursor goes below
abbrev pub fill_columns : Bool → ℕ → Option ℕ → ℕ
fill_columns true w last = 0
fill_columns false w None = 0
fill_columns false w (Some n) = w - n
