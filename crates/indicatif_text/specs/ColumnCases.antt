-- Worked cases of the columns, rows and pieces of texts.
use Rattle.std.specs.Prelude.{◌≡◌, ℕ, true, false, [], ◌∷◌, ◌++◌, List, codes, length}
use Rattle.indicatif_text.specs.Columns.{Cell, Blank, Written, Continued, columns_of, rows_of, last_columns, has_wide}
use Rattle.indicatif_text.specs.Pieces.{Colour, Run, pieces_of_text}

-- the character that begins a colour sequence
abbrev pub escape : List ℕ
escape = 0x1B ∷ []

-- a wide character between narrow ones
abbrev pub digits_and_a_wide_one : List ℕ
digits_and_a_wide_one = codes "123456789" ++ 0x56FD ∷ codes "123456789"

-- the wide one doesn't fit into the tenth column, so there are nine columns, then two and eight, and one
abbrev pub WideOneGoesDown : Type 0
WideOneGoesDown = (length (rows_of 10 digits_and_a_wide_one) ≡ 3) × (last_columns 10 digits_and_a_wide_one ≡ 1)
    × (has_wide 10 digits_and_a_wide_one ≡ false) × (has_wide 1 digits_and_a_wide_one ≡ true)

-- an empty line is one row
abbrev pub EmptyIsOneRow : Type 0
EmptyIsOneRow = (length (rows_of 4 []) ≡ 1) × (last_columns 4 [] ≡ 0)

-- the first cell of a character without joiners
abbrev pub cell : ℕ → Cell
cell c = Written (record { base = c; joiners = [] })

-- rows are filled with blanks; a line that fills its row needs none; an empty line is a row of blanks; a written space is no blank cell
abbrev pub WholeRows : Type 0
WholeRows = (rows_of 3 (codes "ab cd") ≡ (cell 0x61 ∷ cell 0x62 ∷ cell 0x20 ∷ []) ∷ (cell 0x63 ∷ cell 0x64 ∷ Blank ∷ []) ∷ [])
    × (rows_of 2 (codes "ab") ≡ (cell 0x61 ∷ cell 0x62 ∷ []) ∷ [])
    × (rows_of 2 [] ≡ (Blank ∷ Blank ∷ []) ∷ [])

-- a wide character has a continued cell; one that doesn't fit leaves a blank before it
abbrev pub WideRows : Type 0
WideRows = (rows_of 3 (codes "ab" ++ 0x56FD ∷ codes "c") ≡ (cell 0x61 ∷ cell 0x62 ∷ Blank ∷ []) ∷ (cell 0x56FD ∷ Continued ∷ cell 0x63 ∷ []) ∷ [])
    × (rows_of 2 (0x56FD ∷ []) ≡ (cell 0x56FD ∷ Continued ∷ []) ∷ [])

-- a zero-width character joins the one before it, also after a colour and at a row's end; one before any character is left out
abbrev pub JoinedRows : Type 0
JoinedRows = (rows_of 3 (0x308 ∷ codes "a" ++ 0x308 ∷ 0x301 ∷ codes "b") ≡ (Written (record { base = 0x61; joiners = 0x308 ∷ 0x301 ∷ [] }) ∷ cell 0x62 ∷ Blank ∷ []) ∷ [])
    × (rows_of 1 (codes "a" ++ escape ++ codes "[1m" ++ 0x308 ∷ codes "b") ≡ (Written (record { base = 0x61; joiners = 0x308 ∷ [] }) ∷ []) ∷ (cell 0x62 ∷ []) ∷ [])
    × (rows_of 2 (0x308 ∷ []) ≡ (Blank ∷ Blank ∷ []) ∷ [])

-- a colour takes no columns; other sequences and incomplete ones do
abbrev pub ColoursTakeNone : Type 0
ColoursTakeNone = (columns_of (escape ++ codes "[1;31mab" ++ escape ++ codes "[0m") ≡ 2)
    × (columns_of (escape ++ codes "[2Ja") ≡ 4) × (columns_of (codes "a" ++ escape ++ codes "[31") ≡ 4)
    × (columns_of digits_and_a_wide_one ≡ 20)

-- the pieces of a text that begins and ends with a run
abbrev pub RunsAndColours : Type 0
RunsAndColours = pieces_of_text (codes "a" ++ escape ++ codes "[2Jb" ++ escape ++ codes "[31m" ++ escape ++ codes "[0m" ++ escape ++ codes "[1")
    ≡ Run (codes "a" ++ escape ++ codes "[2Jb") ∷ Colour (escape ++ codes "[31m") ∷ Colour (escape ++ codes "[0m") ∷ Run (escape ++ codes "[1") ∷ []
