-- The rows of a terminal as they are kept: the cells up to the last one that was written.
use Rattle.std.specs.Prelude.{◌≡◌, ℕ, ◌+◌, ◌-◌, ◌≤◌, List, [], ◌∷◌, ◌++◌, take, drop, map, reverse, replicate, length}
use Rattle.indicatif_text.specs.Columns.{Cell, Blank, Written, Continued}
use Rattle.indicatif_term.specs.Screen.{with_joiner, emptied_glyph, emptied_front}
use Rattle.indicatif_term.specs.declared.cells.cell.CellKind as stored
use Rattle.indicatif_term.specs.declared.cells.cell.CellKind.TheVariants as variants
use Rattle.indicatif_term.specs.declared.cells.joiners.Joiner.{Joiner}
use Rattle.indicatif_term.specs.Inside.Joiners.{chain}
use Rattle.indicatif_term.specs.declared.cells.row.Row.TheInside.{Inside}

-- the cell of a stored one, with the place of its last joiner in place of its joiners
abbrev pub cell_of : stored.CellKind → Cell
cell_of variants.Empty = Blank
cell_of (variants.Single c) = Written (record { base = c; joiners = [] })
cell_of (variants.Joined c last) = Written (record { base = c; joiners = last ∷ [] })
cell_of variants.Continued = Continued

-- the joiners that lead to the last one, if there is one
abbrev pub joiners_shown : List Joiner → List ℕ → List ℕ
joiners_shown joiners [] = []
joiners_shown joiners (last ∷ ks) = chain (reverse joiners) last

-- the cell with its joiners, from those of its row
abbrev pub cell_shown : List Joiner → Cell → Cell
cell_shown joiners Blank = Blank
cell_shown joiners (Written g) = Written (record { base = g.base; joiners = joiners_shown joiners g.joiners })
cell_shown joiners Continued = Continued

-- the row of w columns that begins with these cells: the others are blank
abbrev pub whole_row : ℕ → List Cell → List Cell
whole_row w cells = cells ++ replicate (w - length cells) Blank

-- the row of a stored one
abbrev pub row_stored : Inside → List Cell
row_stored r = map (cell_shown r.joiners.items) (whole_row r.columns r.cells.items)

-- a joiner added after the others changes no cell
abbrev pub LeavesJoiners : List Joiner → List Cell → Type 0
LeavesJoiners joiners cells = (more : List Joiner) → map (cell_shown (joiners ++ more)) cells ≡ map (cell_shown joiners) cells

-- no more cells are stored than the row has, and they keep their joiners
pub record IsStored (r : Inside) : Type 0 where
  pub within : length r.cells.items ≤ r.columns
  pub leaves : LeavesJoiners r.joiners.items r.cells.items

-- a cell with a joiner joined to its character, if it has one
abbrev pub with_joiner_at : ℕ → Cell → Cell
with_joiner_at c Blank = Blank
with_joiner_at c (Written g) = Written (with_joiner c g)
with_joiner_at c Continued = Continued

-- a joiner joins the character of a cell, if it has one: it is added after those of the row, and later ones change nothing
pub record IsJoined (joiner : ℕ) (joiners joiners' : List Joiner) (cell cell' : Cell) : Type 0 where
  pub more : List Joiner
  pub behind : joiners' ≡ joiners ++ more
  pub joined : (later : List Joiner) → cell_shown (joiners' ++ later) cell' ≡ with_joiner_at joiner (cell_shown joiners cell)

-- each row of at least n columns that begins with these cells also begins with those
abbrev pub BeginTheSame : ℕ → List Cell → List Cell → Type 0
BeginTheSame n new old = (w : ℕ) → n ≤ w → length old ≤ w → whole_row w new ≡ whole_row w old

-- ---- the steps of an edit, on whole rows

-- the row with the glyph that ends just before column n emptied
abbrev pub emptied_back : ℕ → List Cell → List Cell
emptied_back n row = reverse (emptied_glyph (reverse (take n row))) ++ drop n row

-- the row with the continued cells from column n on emptied
abbrev pub emptied_on : ℕ → List Cell → List Cell
emptied_on n row = take n row ++ emptied_front (drop n row)

-- the row with these cells at column n
abbrev pub overwritten : ℕ → List Cell → List Cell → List Cell
overwritten n cells row = take n row ++ cells ++ drop (n + length cells) row

-- the first cell of a character of w columns, and the continued ones
abbrev pub character_cells : ℕ → ℕ → List Cell
character_cells c w = Written (record { base = c; joiners = [] }) ∷ replicate (w - 1) Continued
