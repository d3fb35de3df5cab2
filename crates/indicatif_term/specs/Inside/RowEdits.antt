-- A part of a row written again: the edit of each of its columns, and its bytes.
use Rattle.std.specs.Prelude.{◌≡◌, ℕ, suc, ◌+◌, ◌-◌, ◌≤◌, true, false, ◌==◌, ◌&&◌, not, Bool, if◌then◌else◌, List, [], ◌∷◌, ◌++◌, length, map, take, drop, replicate, get_or, encode_utf8}
use Rattle.std.specs.List.{AllByRecursion}
use Rattle.indicatif_text.specs.Columns.{Cell, Blank, Written, width_of, visible, glyphs_of, columns_in}
use Rattle.std.specs.Str.{all_scalars}
use Rattle.indicatif_term.specs.Screen.{is_continued}
use Rattle.indicatif_term.specs.Shows.{look}
use Rattle.indicatif_term.specs.Calls.{RIGHT, move_bytes}
use Rattle.indicatif_term.specs.Inside.Inks.{RESET, Painted, in_colours, Ink, Inked, colours_of, same_ink, is_alike, padded, AreColours}

-- an edit of a column: its cell stays, or a character of one column is written. Between columns all colours are closed, or some are opened
pub data Edit : Type 0 where
  Stay : Edit
  Write : (c : ℕ) → Edit
  Close : Edit
  Open : (sequences : List ℕ) → Edit

-- a character of one column that belongs to no colour sequence
pub record IsNarrowChar (c : ℕ) : Type 0 where
  pub narrow : width_of c ≡ 1
  pub scalar : all_scalars (c ∷ []) ≡ true
  pub seen : visible (c ∷ []) ≡ c ∷ []

-- characters that take one column each
abbrev pub AreSingle : List ℕ → Type 0
AreSingle line = AllByRecursion (λ c. width_of c ≡ 1) line

-- an edit whose bytes have this effect on a terminal
abbrev pub IsWritable : Edit → Type 0
IsWritable Stay = Unit {0}
IsWritable (Write c) = IsNarrowChar c
IsWritable Close = Unit {0}
IsWritable (Open s) = AreColours s

-- no wide character begins or ends in these cells, or continues after them
abbrev pub IsOwn : Cell → Type 0
IsOwn x = is_continued x ≡ false

pub record AreOwn (cells rest : List Cell) : Type 0 where
  pub each : AllByRecursion IsOwn cells
  pub behind : IsOwn (get_or rest 0 Blank)

-- how many columns edits have
abbrev pub edit_columns : List Edit → ℕ
edit_columns [] = 0
edit_columns (Stay ∷ es) = suc (edit_columns es)
edit_columns (Write c ∷ es) = suc (edit_columns es)
edit_columns (Close ∷ es) = edit_columns es
edit_columns (Open s ∷ es) = edit_columns es

-- a character of one column in its cell
abbrev pub narrow : ℕ → Cell
narrow c = Written (record { base = c; joiners = [] })

-- the cells after the edits
abbrev pub edited : List Cell → List Edit → List Cell
edited cells [] = cells
edited cells (Close ∷ es) = edited cells es
edited cells (Open s ∷ es) = edited cells es
edited [] (Stay ∷ es) = []
edited [] (Write c ∷ es) = []
edited (x ∷ cells) (Stay ∷ es) = x ∷ edited cells es
edited (x ∷ cells) (Write c ∷ es) = narrow c ∷ edited cells es

-- the bytes of edits, if the cursor is this many columns before the first of them: a move over cells that stay comes only before a character that is written
abbrev pub edit_bytes : ℕ → List Edit → List ℕ
edit_bytes gap [] = []
edit_bytes gap (Stay ∷ es) = edit_bytes (suc gap) es
edit_bytes gap (Write c ∷ es) = move_bytes RIGHT gap ++ (encode_utf8 c ++ edit_bytes 0 es)
edit_bytes gap (Close ∷ es) = RESET ++ edit_bytes gap es
edit_bytes gap (Open s ∷ es) = s ++ edit_bytes gap es

-- how many columns the cursor lags behind the last one afterwards
abbrev pub edit_gap : ℕ → List Edit → ℕ
edit_gap gap [] = gap
edit_gap gap (Stay ∷ es) = edit_gap (suc gap) es
edit_gap gap (Write c ∷ es) = edit_gap 0 es
edit_gap gap (Close ∷ es) = edit_gap gap es
edit_gap gap (Open s ∷ es) = edit_gap gap es

-- ---- a row

-- to the front of the cursor's row, and its edits from column k on
abbrev pub row_bytes : ℕ → List Edit → List ℕ
row_bytes k es = (0x0D ∷ []) ++ edit_bytes k es

-- the row with edits from column k on
abbrev pub edited_row : ℕ → List Edit → List Cell → List Cell
edited_row k es r = take k r ++ (edited (take (edit_columns es) (drop k r)) es ++ drop (edit_columns es) (drop k r))

-- a row of w columns that looks like this one after its edits from column k on
pub record Renews (w k : ℕ) (es : List Edit) (r new : List Cell) : Type 0 where
  pub writable : AllByRecursion IsWritable es
  pub whole : length r ≡ w
  pub room : k + edit_columns es ≤ w
  pub own : AreOwn (take (edit_columns es) (drop k r)) (drop (edit_columns es) (drop k r))
  pub looks : map look (edited_row k es r) ≡ map look new

-- ---- lines

-- edits beside the old and the new characters: an edit that leaves a cell is at a character that stays
abbrev pub Lead : List Edit → List ℕ → List ℕ → Type 0
Lead [] [] [] = Unit {0}
Lead (Stay ∷ es) (c ∷ olds) (d ∷ news) = (c ≡ d) × Lead es olds news
Lead (Write e ∷ es) (c ∷ olds) (d ∷ news) = (e ≡ d) × Lead es olds news
Lead (Close ∷ es) olds news = Lead es olds news
Lead (Open s ∷ es) olds news = Lead es olds news
Lead es olds news = ⊥

-- characters, and spaces up to n
abbrev pub padded_chars : ℕ → List ℕ → List ℕ
padded_chars n cs = cs ++ replicate (n - length cs) 0x20

-- two lines of one row on a terminal of w columns: they look the same in the first k columns, and then each has at most n characters of one column
pub record Tails (w k n : ℕ) (old new : List ℕ) : Type 0 where
  pub same : List ℕ
  pub olds : List ℕ
  pub news : List ℕ
  pub old_is : visible old ≡ same ++ olds
  pub new_is : visible new ≡ same ++ news
  pub column : columns_in (glyphs_of same) ≡ k
  pub room : k + n ≤ w
  pub few_olds : length olds ≤ n
  pub few_news : length news ≤ n
  pub old_narrow : AllByRecursion (λ c. width_of c ≡ 1) olds
  pub new_narrow : AllByRecursion (λ c. width_of c ≡ 1) news

-- edits that lead from one line to the other
pub record Turns (w k : ℕ) (es : List Edit) (old new : List ℕ) : Type 0 where
  pub part : Tails w k (edit_columns es) old new
  pub writable : AllByRecursion IsWritable es
  pub lead : Lead es (padded_chars (edit_columns es) part.olds) (padded_chars (edit_columns es) part.news)

-- ---- which columns are written, and in which colours

-- all colours closed, if any are open, and then edits
abbrev pub closed : List ℕ → List Edit → List Edit
closed [] es = es
closed (c ∷ cs) es = Close ∷ es

-- colours opened, if there are any, and then edits
abbrev pub opened : List ℕ → List Edit → List Edit
opened [] es = es
opened (c ∷ cs) es = Open (c ∷ cs) ∷ es

-- from the colours that are open to others, and then edits
abbrev pub recoloured : Ink → Ink → List Edit → List Edit
recoloured ink to es = if same_ink ink to then es else closed (colours_of ink) (opened to.base (opened to.group es))

-- from cells to the same number of others, each of one column, with these colours open: those that differ are written, each in its colours; the last one too if requested. No colours are open after
-- them
abbrev pub plan : Bool → Ink → List Inked → List Inked → List Edit
plan ends ink [] ns = closed (colours_of ink) []
plan ends ink (o ∷ os) [] = closed (colours_of ink) []
plan ends ink (o ∷ os) (n ∷ ns) =
    if is_alike o n && not (ends && (length ns == 0)) then Stay ∷ plan ends ink os ns else recoloured ink n.ink (Write n.char ∷ plan ends n.ink os ns)

-- the bytes of the rest of a row: its cells, padded up to a number of columns, how many columns the cursor lags behind, and the colours that are open
abbrev pub rest_bytes : Bool → Ink → ℕ → ℕ → List Inked → List Inked → List ℕ
rest_bytes ends ink gap left olds news = edit_bytes gap (plan ends ink (padded left olds) (padded left news))

-- the bytes that close the open colours
abbrev pub reset_bytes : List ℕ → List ℕ
reset_bytes [] = []
reset_bytes (c ∷ cs) = RESET

abbrev pub ink_bytes : Ink → Ink → List ℕ
ink_bytes ink to = if same_ink ink to then [] else reset_bytes (colours_of ink) ++ (to.base ++ to.group)

-- ---- the new cells

-- the cells of a row after edits, where a character takes the colours that are open when it is written
abbrev pub repainted : List ℕ → List Edit → List Painted → List Painted
repainted colours [] os = os
repainted colours (Close ∷ es) os = repainted [] es os
repainted colours (Open s ∷ es) os = repainted (colours ++ s) es os
repainted colours (Stay ∷ es) [] = []
repainted colours (Write c ∷ es) [] = []
repainted colours (Stay ∷ es) (o ∷ os) = o ∷ repainted colours es os
repainted colours (Write c ∷ es) (o ∷ os) = in_colours colours c ∷ repainted colours es os

-- the colours that are open after edits
abbrev pub edit_colours : List ℕ → List Edit → List ℕ
edit_colours colours [] = colours
edit_colours colours (Stay ∷ es) = edit_colours colours es
edit_colours colours (Write c ∷ es) = edit_colours colours es
edit_colours colours (Close ∷ es) = edit_colours [] es
edit_colours colours (Open s ∷ es) = edit_colours (colours ++ s) es
