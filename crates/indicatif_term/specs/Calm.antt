-- Calm bytes: all that draws of plain lines write.
use Rattle.std.specs.Prelude.{◌≡◌, ℕ, ◌==◌, ◌&&◌, ◌||◌, not, nat_le, Bool, true, false, IsFalse, is_some, List, [], ◌∷◌, ◌++◌, flat_map, decimal, encode_utf8, if◌then◌else◌}
use Rattle.std.specs.List.{list_all}
use Rattle.std.specs.Int.{is_in_range}
use Rattle.std.specs.Str.{all_scalars}
use Rattle.unicode_width.specs.Width.{char_width}
use Rattle.indicatif_text.specs.Columns.{is_parameter}

-- a character; colours, by their digits and semicolons; a move, by its last character and its number; a row emptied
pub data Stroke : Type 0 where
  Character : (c : ℕ) → Stroke
  Colours : (parameters : List ℕ) → Stroke
  Move : (letter n : ℕ) → Stroke
  Empty : Stroke

-- the bytes of each, none if it isn't calm: UTF-8 of CR, of LF, or of a Unicode scalar value with a width, as no control character has; ESC [, digits and semicolons, m; ESC [ n and a letter from A
-- to D, for up, down, right, left; ESC [ 2 K
abbrev pub stroke_bytes : Stroke → List ℕ
stroke_bytes (Character c) = if (c == 0x0D) || (c == 0x0A) || (all_scalars (c ∷ []) && is_some (char_width false c)) then encode_utf8 c else []
stroke_bytes (Colours parameters) = if list_all is_parameter parameters then 0x1B ∷ 0x5B ∷ (parameters ++ 0x6D ∷ []) else []
stroke_bytes (Move letter n) = if is_in_range 0x41 0x44 letter then 0x1B ∷ 0x5B ∷ (decimal n ++ letter ∷ []) else []
stroke_bytes Empty = 0x1B ∷ 0x5B ∷ 0x32 ∷ 0x4B ∷ []

-- a calm text: the bytes of strokes, one after another
abbrev pub IsCalm : List ℕ → Type 0
IsCalm text = (strokes : List Stroke) × (text ≡ flat_map stroke_bytes strokes)

-- what draws write, one after another: each a calm text, after CR LF if the terminal had failed before; if it fails then, a prefix of that. Nothing without a draw
abbrev pub AreCalm : Bool → List (List ℕ) → Bool → Type 0
AreCalm failed [] fails = fails ≡ failed
AreCalm failed (bytes ∷ drawings) fails =
    (text : List ℕ) × (rest : List ℕ) × (next : Bool) × IsCalm text × (bytes ++ rest ≡ (if failed then 0x0D ∷ 0x0A ∷ [] else []) ++ text) × (IsFalse next → rest ≡ []) × AreCalm next drawings fails

-- bytes that draws wrote
abbrev pub Calmly : Bool → List ℕ → Bool → Type 0
Calmly failed bytes fails = (drawings : List (List ℕ)) × AreCalm failed drawings fails × (bytes ≡ flat_map (λ drawing. drawing) drawings)

-- ---- what they hold

-- a byte of no ASCII control character
abbrev pub is_plain_byte : ℕ → Bool
is_plain_byte b = nat_le 0x20 b && not (b == 0x7F)

-- whether these bytes may follow ESC: `[`; or none, or the CR of the next draw, if the terminal broke off
abbrev pub may_follow : List ℕ → Bool
may_follow [] = true
may_follow (b ∷ bytes) = (b == 0x5B) || (b == 0x0D)

-- no ASCII control character but CR, LF, and ESC if these may follow
abbrev pub is_quiet : List ℕ → Bool
is_quiet [] = true
is_quiet (b ∷ bytes) = (is_plain_byte b || (b == 0x0D) || (b == 0x0A) || ((b == 0x1B) && may_follow bytes)) && is_quiet bytes
