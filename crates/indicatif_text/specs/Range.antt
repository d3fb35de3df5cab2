-- Text cut by columns, with all colour sequences kept. Texts are lists of characters; texts that grow are bytes.
use Rattle.std.specs.Prelude.{◌≡◌, ℕ, ◌+◌, ◌&&◌, nat_lt, nat_le, List, [], ◌∷◌, ◌++◌, if◌then◌else◌, encode_utf8_all, sum_by}
use Rattle.indicatif_text.specs.Columns.{width_of}
use Rattle.indicatif_text.specs.Pieces.{TextPiece, Colour, Run, pieces_of_text}

-- a text in UTF-8 has grown by these characters
abbrev pub Appends : List ℕ → List ℕ → List ℕ → Type 0
Appends old new text = new ≡ old ++ encode_utf8_all text

-- the characters that lie wholly in the columns from `start` up to `end`, of a text that begins at `column`
abbrev pub standing_within : ℕ → ℕ → ℕ → List ℕ → List ℕ
standing_within start end column [] = []
standing_within start end column (c ∷ cs) =
    (if nat_le start column && nat_le (column + width_of c) end then c ∷ [] else []) ++ standing_within start end (column + width_of c) cs

-- the part of a run that begins at `column`: nothing if it begins after `end`
abbrev pub run_within : ℕ → ℕ → ℕ → List ℕ → List ℕ
run_within start end column text = if nat_lt column end then standing_within start end column text else []

-- the part of pieces: every colour sequence, and the part of each run
abbrev pub pieces_within : ℕ → ℕ → ℕ → List TextPiece → List ℕ
pieces_within start end column [] = []
pieces_within start end column (Colour sequence ∷ ps) = sequence ++ pieces_within start end column ps
pieces_within start end column (Run text ∷ ps) = run_within start end column text ++ pieces_within start end (column + sum_by width_of text) ps

-- what `write_ansi_range` appends
unfoldable pub ansi_range : List ℕ → ℕ → ℕ → List ℕ
ansi_range text start end = pieces_within start end 0 (pieces_of_text text)
