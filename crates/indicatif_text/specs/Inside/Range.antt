-- Texts that have grown.
use Rattle.std.specs.Prelude.{ℕ, List}
use Rattle.indicatif_text.specs.Range.{Appends}

-- a text in UTF-8 has grown by some characters
abbrev pub Grows : List ℕ → List ℕ → Type 0
Grows old new = (text : List ℕ) × Appends old new text
