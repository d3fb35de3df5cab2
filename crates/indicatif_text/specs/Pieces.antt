-- A text as colour sequences and the runs between them. Texts are lists of characters.
use Rattle.std.specs.Prelude.{ℕ, zero, suc, ◌-◌, List, [], ◌∷◌, take, Some, None, chars, if◌then◌else◌}
use Rattle.indicatif_text.specs.declared.pieces.Piece.{Piece}
use Rattle.indicatif_text.specs.Columns.{colour_length}

-- a piece of a text
pub data TextPiece : Type 0 where
  -- a colour sequence
  Colour : (sequence : List ℕ) → TextPiece
  -- a longest run without one
  Run : (text : List ℕ) → TextPiece

-- the pieces after a character that begins no colour sequence: it joins the run at their front, or is one
abbrev pub joined_to : ℕ → List TextPiece → List TextPiece
joined_to c [] = Run (c ∷ []) ∷ []
joined_to c (Run text ∷ ps) = Run (c ∷ text) ∷ ps
joined_to c (Colour sequence ∷ ps) = Run (c ∷ []) ∷ Colour sequence ∷ ps

-- the pieces of what follows the first n characters
abbrev pub pieces_from : ℕ → List ℕ → List TextPiece
pieces_from n [] = []
pieces_from (suc n) (c ∷ cs) = pieces_from n cs
pieces_from zero (c ∷ cs) =
    elim (colour_length (c ∷ cs)) [ None ↦ joined_to c (pieces_from 0 cs) | Some n ↦ Colour (take n (c ∷ cs)) ∷ pieces_from (n - 1) cs ]

-- the pieces of a text
unfoldable pub pieces_of_text : List ℕ → List TextPiece
pieces_of_text = pieces_from 0

-- a piece of the code as a piece of a text
abbrev pub text_piece : Piece → TextPiece
text_piece p = if p.colour then Colour (chars p.text.now) else Run (chars p.text.now)
