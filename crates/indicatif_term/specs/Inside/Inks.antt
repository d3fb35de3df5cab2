-- The colours of a line: each visible character with the colour sequences that are open where it stands.
use Rattle.std.specs.Prelude.{◌≡◌, ℕ, ◌+◌, ◌-◌, ◌==◌, ◌&&◌, nat_lt, not, Bool, true, false, List, [], ◌∷◌, ◌++◌, length, map, replicate, if◌then◌else◌}
use Rattle.std.specs.List.{AllByRecursion}
use Rattle.std.specs.Str.{IsAscii, bytes_eq}
use Rattle.indicatif_text.specs.Columns.{width_of, visible}
use Rattle.indicatif_text.specs.Pieces.{TextPiece, Run, Colour, pieces_of_text}

-- the colour sequence that closes all that are open: ESC [ 0 m
abbrev pub RESET : List ℕ
RESET = 0x1B ∷ 0x5B ∷ 0x30 ∷ 0x6D ∷ []

-- whether a colour sequence is the reset
abbrev pub closes : List ℕ → Bool
closes sequence = bytes_eq sequence RESET

-- the sequences that are open after one more, one after another
abbrev pub colours_after : List ℕ → List ℕ → List ℕ
colours_after colours sequence = if closes sequence then [] else colours ++ sequence

-- a character, and the sequences that are open where it stands
pub record Painted : Type 0 where
  pub char : ℕ
  pub colours : List ℕ

abbrev pub in_colours : List ℕ → ℕ → Painted
in_colours colours c = record { char = c; colours = colours }

-- the visible characters of pieces in their colours, with these open before
abbrev pub painted_from : List ℕ → List TextPiece → List Painted
painted_from colours [] = []
painted_from colours (Run text ∷ ps) = map (in_colours colours) text ++ painted_from colours ps
painted_from colours (Colour s ∷ ps) = painted_from (colours_after colours s) ps

abbrev pub colours_behind : List ℕ → List TextPiece → List ℕ
colours_behind colours [] = colours
colours_behind colours (Run text ∷ ps) = colours_behind colours ps
colours_behind colours (Colour s ∷ ps) = colours_behind (colours_after colours s) ps

-- the visible characters of a line in their colours
abbrev pub painted : List ℕ → List Painted
painted line = painted_from [] (pieces_of_text line)

-- ---- a text as the code reads it: of the open sequences, only the last two groups of adjacent ones

pub record Ink : Type 0 where
  pub base : List ℕ
  pub group : List ℕ

abbrev pub NONE : Ink
NONE = record { base = []; group = [] }

-- all of them
abbrev pub colours_of : Ink → List ℕ
colours_of i = i.base ++ i.group

abbrev pub same_ink : Ink → Ink → Bool
same_ink i j = bytes_eq i.base j.base && bytes_eq i.group j.group

-- a character, and the sequences that are open as it is read
pub record Inked : Type 0 where
  pub char : ℕ
  pub ink : Ink

abbrev pub in_ink : Ink → ℕ → Inked
in_ink ink c = record { char = c; ink = ink }

abbrev pub characters : List Inked → List ℕ
characters cells = map (λ (x : Inked). x.char) cells

abbrev pub as_painted : Inked → Painted
as_painted x = in_colours (colours_of x.ink) x.char

-- whether two cells are the same
abbrev pub is_alike : Inked → Inked → Bool
is_alike a b = (a.char == b.char) && same_ink a.ink b.ink

-- cells, and spaces without colours up to n
abbrev pub padded : ℕ → List Inked → List Inked
padded n cells = cells ++ replicate (n - length cells) (in_ink NONE 0x20)

-- the ink after a sequence that opens colours; `fresh` means that no character came since the last one
abbrev pub begun : Bool → Ink → List ℕ → Ink
begun true ink s = record { base = ink.base; group = ink.group ++ s }
begun false ink s = record { base = ink.group; group = s }

-- the visible characters of pieces as they are read
abbrev pub read_from : Bool → Ink → List TextPiece → List Inked
read_from fresh ink [] = []
read_from fresh ink (Run text ∷ ps) = map (in_ink ink) text ++ read_from false ink ps
read_from fresh ink (Colour s ∷ ps) = read_from true (if closes s then NONE else begun fresh ink s) ps

abbrev pub read : Ink → List ℕ → List Inked
read ink text = read_from false ink (pieces_of_text text)

-- pieces in which no more than two groups of sequences are open, and none at the end
abbrev pub is_tidy : Bool → ℕ → List TextPiece → Bool
is_tidy fresh groups [] = groups == 0
is_tidy fresh groups (Run text ∷ ps) = is_tidy false groups ps
is_tidy fresh groups (Colour s ∷ ps) =
    if closes s then is_tidy true 0 ps
    else if fresh && not (groups == 0) then is_tidy true groups ps
    else nat_lt groups 2 && is_tidy true (groups + 1) ps

-- a text whose visible characters take one column each, in colours that the code reads correctly
pub record IsRead (text : List ℕ) : Type 0 where
  pub single : AllByRecursion (λ c. width_of c ≡ 1) (visible text)
  pub tidy : is_tidy false 0 (pieces_of_text text) ≡ true

-- colour sequences, one after another: none of them is visible
pub record AreColours (sequences : List ℕ) : Type 0 where
  pub ascii : IsAscii sequences
  pub unseen : (behind : List ℕ) → visible (sequences ++ behind) ≡ visible behind
