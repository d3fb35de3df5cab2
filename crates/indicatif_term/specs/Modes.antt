-- A terminal of cells whose wrap can be turned off: DEC's private mode 7, off by ESC [ ? 7 l and on by ESC [ ? 7 h. ESC [ K empties a row's end.
use Rattle.std.specs.Prelude.{◌≡◌, ℕ, ◌-◌, min, Bool, true, false, IsFalse, ◌&&◌, ◌||◌, ◌==◌, nat_lt, List, [], ◌∷◌, ◌++◌, take, Option, Some, None, if◌then◌else◌}
use Rattle.std.specs.Option.{option_map_or}
use Rattle.unicode_width.specs.Width.{char_width}
use Rattle.indicatif_text.specs.Columns.{is_parameter, blank_row}
use Rattle.indicatif_term.specs.Screen.{Screen, Op, Put, performed, put_here, put_joiner, with_row, cursor_row, cut_before}
use Rattle.indicatif_term.specs.Terminal.{Terminal, Reader, SequencePlace, Sequence, idle, number_with, byte_step}

-- ---- while the wrap is off

-- the cursor never waits at the end of a full row: it stays on the last column
abbrev pub within_row : Screen → Screen
within_row s = record s { column = min s.column (s.columns - 1) }

-- a character of w columns: one that doesn't fit at the end of a row is written over what stands there
abbrev pub put_over : ℕ → ℕ → Screen → Screen
put_over c w s =
    if nat_lt s.columns w then s
    else within_row (put_here (record { base = c; joiners = [] }) w (record s { column = min s.column (s.columns - w) }))

-- a character by its columns
abbrev pub put_unwrapped : ℕ → Option ℕ → Screen → Screen
put_unwrapped c None s = s
put_unwrapped c (Some w) s = if w == 0 then put_joiner c s else put_over c w s

-- anything but a character is as with the wrap on
abbrev pub unwrapped : Op → Screen → Screen
unwrapped (Put c) s = put_unwrapped c (char_width false c) s
unwrapped op s = performed op s

-- the screen after an operation, with the wrap on or off
abbrev pub performed_with : Bool → Op → Screen → Screen
performed_with true op s = performed op s
performed_with false op s = unwrapped op s

-- ---- the terminal

-- a terminal, whether it wraps, and the number so far of the private sequence that it is in: there is none after a semicolon
pub record ModeTerminal : Type 0 where
  pub terminal : Terminal
  pub wraps : Bool
  pub private_number : Option (Option ℕ)

-- between two characters
abbrev pub mode_resting : Bool → Screen → ModeTerminal
mode_resting wraps s = record { terminal = record { screen = s; reader = idle }; wraps = wraps; private_number = None }

-- whether this byte is unknown to a terminal without modes: after ESC [ a ?, which makes the sequence a private one, or a K
abbrev pub is_own : SequencePlace → ℕ → Bool
is_own (Sequence (Some n)) b = (n == 0) && ((b == 0x3F) || (b == 0x4B))
is_own _ b = false

-- whether the terminal wraps after a private sequence with this number and this last character
abbrev pub wraps_after : Option ℕ → ℕ → Bool → Bool
wraps_after None c wraps = wraps
wraps_after (Some n) c wraps = if n == 7 then (if c == 0x68 then true else if c == 0x6C then false else wraps) else wraps

-- the terminal with its wrap on or off; if off, the cursor stops waiting
abbrev pub with_wrap : Bool → ModeTerminal → ModeTerminal
with_wrap wraps m = record {
  terminal = record m.terminal { screen = if wraps then m.terminal.screen else within_row m.terminal.screen };
  wraps = wraps;
  private_number = None;
}

-- a byte of a private sequence
abbrev pub private_step : Option ℕ → ModeTerminal → ℕ → ModeTerminal
private_step number m b =
    if is_parameter b then record m { private_number = Some (number_with number b) } else with_wrap (wraps_after number b m.wraps) m

-- a byte that any terminal reads in the same way
abbrev pub read_step : ModeTerminal → ℕ → ModeTerminal
read_step m b =
    let step = byte_step m.terminal.reader b in
    record m {
      terminal = record { screen = option_map_or (λ op. performed_with m.wraps op m.terminal.screen) step.0 m.terminal.screen; reader = step.1 };
    }

-- the cursor's row with blanks from the cursor on
abbrev pub end_emptied : Screen → Screen
end_emptied s = with_row s (cut_before s.column (cursor_row s) ++ blank_row (s.columns - s.column))

-- after a ? or a K that follows ESC [
abbrev pub own_step : ModeTerminal → ℕ → ModeTerminal
own_step m b =
    if b == 0x3F then record m { terminal = record m.terminal { reader = idle }; private_number = Some (Some 0) }
    else record m { terminal = record { screen = end_emptied m.terminal.screen; reader = idle } }

-- a byte outside a private sequence
abbrev pub open_step : ModeTerminal → ℕ → ModeTerminal
open_step m b = if is_own m.terminal.reader.place b then own_step m b else read_step m b

-- the terminal after a byte
abbrev pub step_by : Option (Option ℕ) → ModeTerminal → ℕ → ModeTerminal
step_by None m b = open_step m b
step_by (Some number) m b = private_step number m b

-- the terminal after these bytes
abbrev pub mode_after : ModeTerminal → List ℕ → ModeTerminal
mode_after m [] = m
mode_after m (b ∷ bytes) = mode_after (step_by m.private_number m b) bytes

-- ---- rows that stand

-- the first n rows are unchanged after each byte
abbrev pub ModeRowsStay : ℕ → ModeTerminal → List ℕ → Type 0
ModeRowsStay n m bytes = (k : ℕ) → take n (mode_after m (take k bytes)).terminal.screen.rows ≡ take n m.terminal.screen.rows

-- a terminal without modes knows each of these bytes: none makes a sequence a private one, or empties the end of a row
abbrev pub HasNoOwn : Reader → List ℕ → Type 0
HasNoOwn r [] = Unit {0}
HasNoOwn r (b ∷ bytes) = IsFalse (is_own r.place b) × HasNoOwn (byte_step r b).1 bytes
