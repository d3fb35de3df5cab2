-- The request of a command line. Texts are lists of bytes.
use Rattle.std.specs.Prelude.{ℕ, ◌<◌, ◌^◌, Bool, not, ◌&&◌, ◌==◌, nat_lt, List, [], ◌∷◌, length, Option, Some, None, option_map, if◌then◌else◌, codes, bytes_eq}
use Rattle.std.specs.Char.{is_ascii_digit}
use Rattle.std.specs.List.{list_all}
use Rattle.std.specs.Str.Parse.{digits_value}
use Rattle.indicatif_term.specs.declared.target.MultiProgressAlignment.{MultiProgressAlignment}
use Rattle.indicatif_term.specs.declared.target.MultiProgressAlignment.TheVariants.{Top, Bottom}
use Rattle.bars_run.specs.declared.arguments.Asked.{Asked}
use Rattle.bars_run.specs.declared.arguments.Size.{Size}

-- one or more decimal digits
abbrev pub is_number : List ℕ → Bool
is_number text = not (length text == 0) && list_all is_ascii_digit text

-- the number that they spell, if it is below a bound
abbrev pub number_below : ℕ → List ℕ → Option ℕ
number_below bound text = if is_number text && nat_lt (digits_value 10 text) bound then Some (digits_value 10 text) else None

-- a size with these rows and columns, if both are numbers
abbrev pub size_of : Option ℕ → Option ℕ → Option Size
size_of (Some rows) (Some columns) = Some (record { rows = rows; columns = columns })
size_of _ _ = None

-- the size that two texts spell: each a number of at most 65,535
abbrev pub size_spelled : List ℕ → List ℕ → Option Size
size_spelled rows columns = size_of (number_below (2 ^ 16) rows) (number_below (2 ^ 16) columns)

-- a terminal of this size has rows and columns
abbrev pub HasCells : Size → Type 0
HasCells size = (0 < size.rows) × (0 < size.columns)

-- a request for a terminal of this size, with this alignment of bars
abbrev pub asking : MultiProgressAlignment → Size → Asked
asking alignment size = record { size = size; alignment = alignment }

-- a request after the word `run`
abbrev pub asked_behind : List ℕ → Option Asked → Option Asked
asked_behind word asked = if bytes_eq word (codes "run") then asked else None

-- the request of `run ROWS COLS` or `run ROWS COLS bottom`; none for other words
abbrev pub asked_by : List (List ℕ) → Option Asked
asked_by (word ∷ rows ∷ columns ∷ []) = asked_behind word (option_map (asking Top) (size_spelled rows columns))
asked_by (word ∷ rows ∷ columns ∷ place ∷ []) =
    if bytes_eq place (codes "bottom") then asked_behind word (option_map (asking Bottom) (size_spelled rows columns)) else None
asked_by _ = None
