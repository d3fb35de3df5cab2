-- The reader of bytes as it is stored.
use Rattle.std.specs.Prelude.{◌≡◌, ℕ, ◌<◌, ◌≤◌, true, List, [], ◌∷◌, length, take, encode_utf8, Option, option_to_list, Bool}
use Rattle.std.specs.Str.{all_scalars}
use Rattle.indicatif_term.specs.Terminal.{SequencePlace, OutsideSequence, Escaped, Sequence, idle, sequence_op, Reader, char_step, byte_step}
use Rattle.indicatif_term.specs.Feeding.{ops_of}
use Rattle.indicatif_term.specs.declared.cells.scanner.ScanState.{ScanState}
use Rattle.indicatif_term.specs.declared.cells.scanner.ScanState.TheVariants.{Outside, AfterEscape, InSequence}
use Rattle.indicatif_term.specs.Screen.{Screen, Op, performed}
use Rattle.indicatif_term.specs.Modes.{performed_with}

-- the operations of a character
abbrev pub char_ops : SequencePlace → ℕ → List Op
char_ops place c = option_to_list (char_step place c).0

-- the place after a character
abbrev pub char_place : SequencePlace → ℕ → SequencePlace
char_place place c = (char_step place c).1

-- the operations of a byte
abbrev pub byte_ops : Reader → ℕ → List Op
byte_ops r b = option_to_list (byte_step r b).0

-- the reader after a byte
abbrev pub byte_reader : Reader → ℕ → Reader
byte_reader r b = (byte_step r b).1

-- the reader after bytes
abbrev pub reader_after : Reader → List ℕ → Reader
reader_after r [] = r
reader_after r (b ∷ bytes) = reader_after (byte_step r b).1 bytes

-- the screen after these operations
abbrev pub performed_all : List Op → Screen → Screen
performed_all [] s = s
performed_all (op ∷ ops) s = performed_all ops (performed op s)

-- the screen after these operations, with the wrap on or off
abbrev pub all_with : Bool → List Op → Screen → Screen
all_with wraps [] s = s
all_with wraps (op ∷ ops) s = all_with wraps ops (performed_with wraps op s)

-- the place
abbrev pub stage_place : ScanState → SequencePlace
stage_place Outside = OutsideSequence
stage_place AfterEscape = Escaped
stage_place (InSequence number) = Sequence number

-- this character, which is no ASCII control character, has this many bytes at the front
pub record IsWholeChar (bytes : List ℕ) (c len : ℕ) : Type 0 where
  pub some : 0 < len
  pub within : len ≤ length bytes
  pub spelled : take len bytes ≡ encode_utf8 c
  pub scalar : all_scalars (c ∷ []) ≡ true
  pub printable : 0x20 ≤ c

-- this many bytes at the front are a whole escape sequence with this number and this last character
pub record IsWholeSequence (bytes : List ℕ) (number : Option ℕ) (last len : ℕ) : Type 0 where
  pub some : 0 < len
  pub within : len ≤ length bytes
  pub asks : ops_of idle (take len bytes) ≡ option_to_list (sequence_op number last)
  pub ends : reader_after idle (take len bytes) ≡ idle

-- this many bytes at the front are a prefix of an escape sequence, up to the digits of this number
pub record IsSequenceFront (bytes : List ℕ) (number : Option ℕ) (len : ℕ) : Type 0 where
  pub within : len ≤ length bytes
  pub asks : ops_of idle (take len bytes) ≡ []
  pub goes_on : reader_after idle (take len bytes) ≡ record { place = Sequence number; spelling = [] }
