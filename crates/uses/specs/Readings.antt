-- Texts of rows, and where a terminal starts.
use Rattle.std.specs.Prelude.{◌≡◌, ℕ, ◌++◌, List, [], flat_map, map, replicate}
use Rattle.indicatif_text.specs.Columns.{Cell, rows_of}
use Rattle.indicatif_term.specs.Lines.{text_lines, logged_lines}
use Rattle.indicatif_term.specs.Screen.{Screen}
use Rattle.indicatif_term.specs.Terminal.{Terminal}
use Rattle.indicatif_term.specs.Shows.{IsOpening, looks_of, resting}
use Rattle.indicatif_term.specs.Pictures.{row_text}

-- texts are those of these rows, then empty ones
abbrev pub AreTextsOf : List (List ℕ) → List (List Cell) → Type 0
AreTextsOf texts rows = (blank : ℕ) × (texts ≡ map row_text rows ++ replicate blank [])

-- a terminal that rests at an opening of its own size
abbrev pub StartsAt : Terminal → Screen → Type 0
StartsAt t opening = (t ≡ resting opening) × IsOpening opening.columns opening.height opening

-- texts begin with those of these rows
abbrev pub BeginAs : List (List ℕ) → List (List Cell) → Type 0
BeginAs texts rows = (others : List (List ℕ)) × (texts ≡ map row_text rows ++ others)

-- all rows are these first ones, any others, some that look as the given rows, and any others
abbrev pub StandBelow : List (List Cell) → List (List Cell) → List (List Cell) → Type 0
StandBelow first rows all = (between shown below : List (List Cell)) × (all ≡ first ++ between ++ shown ++ below) × (looks_of shown ≡ looks_of rows)

-- the rows of a text that is logged, on a terminal of w columns
abbrev pub logged_rows : ℕ → List ℕ → List (List Cell)
logged_rows w text = flat_map (rows_of w) (text_lines (logged_lines text))

-- rows stand among others, one right below the other
abbrev pub StandAmong : List (List Cell) → List (List Cell) → Type 0
StandAmong rows all = (front : List (List Cell)) × (rest : List (List Cell)) × (all ≡ front ++ rows ++ rest)

-- rows stand among others, and these further down
abbrev pub StandInOrder : List (List Cell) → List (List Cell) → List (List Cell) → Type 0
StandInOrder rows later all = (front : List (List Cell)) × (between : List (List Cell)) × (rest : List (List Cell)) × (all ≡ front ++ rows ++ between ++ later ++ rest)
