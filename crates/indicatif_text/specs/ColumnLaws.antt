-- Laws of the visible characters of a text, of its columns and of its rows. Texts are lists of characters.
use Rattle.std.specs.Prelude.{◌≡◌, ◌≢◌, ℕ, ◌≤◌, Bool, false, ◌||◌, ◌==◌, List, ◌∷◌, ◌++◌, length, replicate, flat_map, is_some, IsTrue, All}
use Rattle.std.specs.Int.{IsInRange}
use Rattle.std.specs.List.{list_all}
use Rattle.std.specs.Str.{IsUtf8, IsAscii, chars, drop_trailing_whitespace}
use Rattle.unicode_width.specs.Width.{char_width}
use Rattle.indicatif_text.specs.Columns.{visible, columns_of, is_plain, rows_of}
use Rattle.indicatif_text.specs.StyleWords.{sequence_of, styled}

-- after a text of characters with a width and colour sequences, any text is as visible as alone
abbrev pub PlainTextsJoin : Type 0
PlainTextsJoin = (front text : List ℕ) → IsTrue (is_plain front) → visible (front ++ text) ≡ visible front ++ visible text

-- spaces after a text are visible, whatever the text ends in
abbrev pub SpacesAreSeen : Type 0
SpacesAreSeen = (text : List ℕ) (n : ℕ) → visible (text ++ replicate n 0x20) ≡ visible text ++ replicate n 0x20

-- colour sequences with any numbers are ASCII, and invisible
abbrev pub NumbersAreUnseen : Type 0
NumbersAreUnseen = (numbers text : List ℕ) → IsAscii (flat_map sequence_of numbers) × (visible (flat_map sequence_of numbers ++ text) ≡ visible text)

-- what a style writes around a text is invisible
abbrev pub StylesAreUnseen : Type 0
StylesAreUnseen = (colours : Bool) (numbers text : List ℕ) → visible (styled colours numbers text) ≡ visible text

-- the same for texts in UTF-8: in bytes as in characters
abbrev pub StylesAreBytes : Type 0
StylesAreBytes = (colours : Bool) (numbers text : List ℕ) → IsUtf8 text → IsUtf8 (styled colours numbers text) × (chars (styled colours numbers text) ≡ styled colours numbers (chars text))

-- any character but ESC at the front of a text is visible
abbrev pub OthersAreSeen : Type 0
OthersAreSeen = (c : ℕ) (text : List ℕ) → c ≢ 0x1B → visible (c ∷ text) ≡ c ∷ visible text

-- if the visible characters of a text have a width, so do all its characters but ESC
abbrev pub PlainTextsHaveWidths : Type 0
PlainTextsHaveWidths = (text : List ℕ) → IsTrue (is_plain text) → IsTrue (list_all (λ c. (c == 0x1B) || is_some (char_width false c)) text)

-- such a text stays one if the white space at its end is cut
abbrev pub PlainTextsTrim : Type 0
PlainTextsTrim = (text : List ℕ) → IsTrue (is_plain text) → IsTrue (is_plain (drop_trailing_whitespace text))

-- printable ASCII, in bytes, is such a text
abbrev pub PrintedIsPlain : Type 0
PrintedIsPlain = (text : List ℕ) → All (IsInRange 0x20 0x7E) text → IsUtf8 text × IsTrue (is_plain (chars text))

-- a text no wider than the terminal takes one row
abbrev pub OneRow : Type 0
OneRow = (text : List ℕ) (w : ℕ) → columns_of text ≤ w → length (rows_of w text) ≡ 1
