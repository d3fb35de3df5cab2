-- A terminal as it reads bytes: UTF-8 first, escape sequences next. Unknown sequences and invalid bytes change nothing.
use Rattle.std.specs.Prelude.{ℕ, ◌+◌, ◌-◌, ◌*◌, min, Bool, ◌&&◌, ◌||◌, ◌==◌, nat_le, nat_lt, List, [], ◌∷◌, ◌++◌, length, chars, Option, Some, None, if◌then◌else◌, slice_index}
use Rattle.std.specs.Option.{option_map_or}
use Rattle.std.specs.Str.{is_utf8}
use Rattle.indicatif_text.specs.Columns.{is_parameter}
use Rattle.indicatif_term.specs.Screen.{Screen, Op, Put, Return, LineFeed, Up, Down, Right, Left, EmptyRow, performed, blank_screen}

-- ---- characters

-- the place of the next character in an escape sequence
pub data SequencePlace : Type 0 where
  OutsideSequence : SequencePlace
  -- after ESC
  Escaped : SequencePlace
  -- after ESC [ and the digits of this number, which is 0 before the first; None after a semicolon
  Sequence : (number : Option ℕ) → SequencePlace

-- a digit from 0 to 9
abbrev pub is_digit : ℕ → Bool
is_digit c = nat_le 0x30 c && nat_le c 0x39

-- the maximum size of a terminal: a greater number counts as this one
abbrev pub GREATEST : ℕ
GREATEST = 65535

-- a number with one more digit; none with a semicolon
abbrev pub number_with : Option ℕ → ℕ → Option ℕ
number_with None c = None
number_with (Some n) c = if is_digit c then Some (min (10 * n + (c - 0x30)) GREATEST) else None

-- the operation of the sequence with this number and this last character, if it has one; in a move a missing number or 0 counts as 1
abbrev pub sequence_op : Option ℕ → ℕ → Option Op
sequence_op None c = None
sequence_op (Some n) c =
    let count = if n == 0 then 1 else n in
    if c == 0x41 then Some (Up count)
    else if c == 0x42 then Some (Down count)
    else if c == 0x43 then Some (Right count)
    else if c == 0x44 then Some (Left count)
    else if (c == 0x4B) && (n == 2) then Some EmptyRow else None

-- a character outside a sequence: its operation, if it has one, and the place of the next one
abbrev pub plain_step : ℕ → Option Op × SequencePlace
plain_step c =
    if c == 0x1B then (None, Escaped)
    else if c == 0x0D then (Some Return, OutsideSequence)
    else if c == 0x0A then (Some LineFeed, OutsideSequence) else (Some (Put c), OutsideSequence)

-- a character at any place: its operation, if it has one, and the place of the next one
abbrev pub char_step : SequencePlace → ℕ → Option Op × SequencePlace
char_step OutsideSequence c = plain_step c
char_step Escaped c = if c == 0x5B then (None, Sequence (Some 0)) else plain_step c
char_step (Sequence number) c = if is_parameter c then (None, Sequence (number_with number c)) else (sequence_op number c, OutsideSequence)

-- ---- bytes

-- the state of a terminal in the bytes that it reads
pub record Reader : Type 0 where
  pub place : SequencePlace
  -- the bytes of an incomplete character: those since the last one that can begin a character
  pub spelling : List ℕ

-- between two characters, outside a sequence
abbrev pub idle : Reader
idle = record { place = OutsideSequence; spelling = [] }

-- whether a byte can begin a character
abbrev pub is_leading : ℕ → Bool
is_leading b = nat_lt b 0x80 || nat_le 0xC0 b

-- the bytes with one more; one that can begin a character starts over
abbrev pub spelling_with : List ℕ → ℕ → List ℕ
spelling_with spelling b = (if is_leading b then [] else spelling) ++ b ∷ []

-- the character that bytes spell
abbrev pub first_char : List ℕ → ℕ
first_char bytes = slice_index (chars bytes) 0

-- a byte: its operation, if it has one, and the reader after it; bytes that are no character have none, and they are dropped once they are four, the most that a character has
abbrev pub byte_step : Reader → ℕ → Option Op × Reader
byte_step r b =
    let bytes = spelling_with r.spelling b in
    let step = char_step r.place (first_char bytes) in
    if is_utf8 bytes then (step.0, record { place = step.1; spelling = [] })
    else (None, record { place = r.place; spelling = if nat_lt (length bytes) 4 then bytes else [] })

-- ---- a terminal

-- a screen, and the state of its reader
pub record Terminal : Type 0 where
  pub screen : Screen
  pub reader : Reader

-- the terminal after these bytes: the operation of each is performed
unfoldable pub after : Terminal → List ℕ → Terminal
after t [] = t
after t (b ∷ bytes) =
    let step = byte_step t.reader b in
    after (record { screen = option_map_or (λ op. performed op t.screen) step.0 t.screen; reader = step.1 }) bytes

-- a terminal of blank rows, the cursor at the front of the first
abbrev pub blank_terminal : ℕ → ℕ → Terminal
blank_terminal rows columns = record { screen = blank_screen rows columns; reader = idle }
