-- Laws of the pieces of every text.
use Rattle.std.specs.Prelude.{◌≡◌, ℕ, ⊤, List, [], ◌∷◌, drop, flat_map, Some, None, All, length}
use Rattle.indicatif_text.specs.Columns.{colour_length, visible}
use Rattle.indicatif_text.specs.Pieces.{TextPiece, Colour, Run, pieces_of_text}

-- the characters of a piece
abbrev pub piece_text : TextPiece → List ℕ
piece_text (Colour sequence) = sequence
piece_text (Run text) = text

-- the characters of a run
abbrev pub run_text : TextPiece → List ℕ
run_text (Colour sequence) = []
run_text (Run text) = text

-- the pieces join to the text
abbrev pub PiecesJoin : Type 0
PiecesJoin = (text : List ℕ) → flat_map piece_text (pieces_of_text text) ≡ text

-- the runs are the visible characters
abbrev pub RunsAreVisible : Type 0
RunsAreVisible = (text : List ℕ) → flat_map run_text (pieces_of_text text) ≡ visible text

-- a colour sequence from end to end, or a run in which none begins
abbrev pub IsExact : TextPiece → Type 0
IsExact (Colour sequence) = colour_length sequence ≡ Some (length sequence)
IsExact (Run text) = (place : ℕ) → colour_length (drop place text) ≡ None

-- colour pieces are exactly one colour sequence, and no run holds one
abbrev pub PiecesAreExact : Type 0
PiecesAreExact = (text : List ℕ) → All IsExact (pieces_of_text text)

-- no piece is empty
abbrev pub IsNoEmptyPiece : TextPiece → Type 0
IsNoEmptyPiece piece = ◌≡◌ (piece_text piece) [] → ⊥

-- no piece of a text is empty
abbrev pub NoEmptyPieces : Type 0
NoEmptyPieces = (text : List ℕ) → All IsNoEmptyPiece (pieces_of_text text)

-- no run follows a run
abbrev pub NoRunsAdjoin : List TextPiece → Type 0
NoRunsAdjoin [] = ⊤
NoRunsAdjoin (Colour sequence ∷ ps) = NoRunsAdjoin ps
NoRunsAdjoin (Run text ∷ []) = ⊤
NoRunsAdjoin (Run text ∷ Run next ∷ ps) = ⊥
NoRunsAdjoin (Run text ∷ Colour sequence ∷ ps) = NoRunsAdjoin ps

-- no run follows a run
abbrev pub RunsAreLongest : Type 0
RunsAreLongest = (text : List ℕ) → NoRunsAdjoin (pieces_of_text text)
