-- Laws of ranges of columns. Texts are lists of characters.
use Rattle.std.specs.Prelude.{◌≡◌, ℕ, ◌-◌, ◌<◌, ◌≤◌, Bool, List, [], ◌∷◌, flat_map, IsTrue}
use Rattle.std.specs.List.{list_all}
use Rattle.indicatif_text.specs.Columns.{columns_of, is_plain}
use Rattle.indicatif_text.specs.Pieces.{TextPiece, Colour, Run, pieces_of_text}
use Rattle.indicatif_text.specs.Range.{ansi_range}

-- the range from 0 to past the last column is the text
abbrev pub WholeRange : Type 0
WholeRange = (text : List ℕ) (end : ℕ) → columns_of text < end → ansi_range text 0 end ≡ text

-- a range never has more columns than it is wide
abbrev pub RangesFit : Type 0
RangesFit = (text : List ℕ) (start end : ℕ) → columns_of (ansi_range text start end) ≤ end - start

-- the colour sequence that a piece is, if it is one
abbrev pub sequence_in : TextPiece → List (List ℕ)
sequence_in (Colour sequence) = sequence ∷ []
sequence_in (Run text) = []

-- the colour sequences of a text, in order
abbrev pub sequences_of : List ℕ → List (List ℕ)
sequences_of text = flat_map sequence_in (pieces_of_text text)

-- a range has all colour sequences of its text, in order, and no other
abbrev pub SequencesStay : Type 0
SequencesStay = (text : List ℕ) (start end : ℕ) → sequences_of (ansi_range text start end) ≡ sequences_of text

-- a range has only characters of its text: what holds of all of these holds of all of it
abbrev pub NoCharacterIsAdded : Type 0
NoCharacterIsAdded = (is_such : ℕ → Bool) (text : List ℕ) (start end : ℕ) → IsTrue (list_all is_such text) → IsTrue (list_all is_such (ansi_range text start end))

-- a range of a text of characters with a width and colour sequences is such a text
abbrev pub RangesStayPlain : Type 0
RangesStayPlain = (text : List ℕ) (start end : ℕ) → IsTrue (is_plain text) → IsTrue (is_plain (ansi_range text start end))
