-- The calls of a terminal as bytes, by ECMA-48, and what contracts see of a terminal.
use Rattle.std.specs.Prelude.{◌≡◌, ℕ, ◌+◌, ◌%◌, ◌^◌, ◌==◌, Bool, true, false, IsTrue, List, [], ◌∷◌, ◌++◌, if◌then◌else◌, decimal, Result, MatchResult}
use Rattle.std.specs.IoError.{error_kind}
use Rattle.std.specs.declared.io.Error.{Error}
use Rattle.std.specs.declared.io.ErrorKind.{ErrorKind}
use Rattle.indicatif_term.specs.Terminal.{Terminal, after}

-- ---- the bytes of the calls

-- the last characters of the moves: `A`, `B`, `C`, `D`
abbrev pub UP : ℕ
UP = 0x41

-- of a move down
abbrev pub DOWN : ℕ
DOWN = 0x42

-- of a move to the right
abbrev pub RIGHT : ℕ
RIGHT = 0x43

-- of a move to the left
abbrev pub LEFT : ℕ
LEFT = 0x44

-- ESC [ n and the letter; nothing if n is 0
abbrev pub move_bytes : ℕ → ℕ → List ℕ
move_bytes letter n = if n == 0 then [] else 0x1B ∷ 0x5B ∷ (decimal n ++ letter ∷ [])

-- the text, CR, LF
abbrev pub line_bytes : List ℕ → List ℕ
line_bytes text = text ++ 0x0D ∷ 0x0A ∷ []

-- CR, ESC [ 2 K
abbrev pub clear_bytes : List ℕ
clear_bytes = 0x0D ∷ 0x1B ∷ 0x5B ∷ 0x32 ∷ 0x4B ∷ []

-- the end of a line, and an empty row after it: the start of a draw after a failure
abbrev pub anew_bytes : List ℕ
anew_bytes = 0x0D ∷ 0x0A ∷ clear_bytes

-- ---- what contracts see of a terminal

-- what can be read of a terminal: its state, the bytes that it got, or nothing
pub data Told : Type 0 where
  State : (terminal : Terminal) → Told
  Bytes : (bytes : List ℕ) → Told
  Nothing : Told

-- whether anything can be read of it
abbrev pub is_told : Told → Bool
is_told Nothing = false
is_told _ = true

-- what can be read of it after these bytes
abbrev pub led_on : Told → List ℕ → Told
led_on (State t) bytes = State (after t bytes)
led_on (Bytes old) bytes = Bytes (old ++ bytes)
led_on Nothing bytes = Nothing

-- what contracts see of a terminal: what can be read of it, its size, how often a call has failed, modulo 2^64, and the kind of the last failure
pub record TermView : Type 0 where
  pub told : Told
  pub columns : ℕ
  pub rows : ℕ
  pub faults : ℕ
  pub kind : ErrorKind

-- these bytes led from one view to the other, if anything can be read, and nothing else changed
pub record LeadsOn (bytes : List ℕ) (old new : TermView) : Type 0 where
  pub told_is : IsTrue (is_told old.told) → new.told ≡ led_on old.told bytes
  pub columns_are : new.columns ≡ old.columns
  pub rows_are : new.rows ≡ old.rows
  pub faults_are : new.faults ≡ old.faults
  pub kind_is : new.kind ≡ old.kind

-- a prefix of these bytes did, and there is one more fault, of this kind
pub record BreaksOff (bytes : List ℕ) (kind : ErrorKind) (old new : TermView) : Type 0 where
  pub front : List ℕ
  pub rest : List ℕ
  pub whole : front ++ rest ≡ bytes
  pub told_is : IsTrue (is_told old.told) → new.told ≡ led_on old.told front
  pub columns_are : new.columns ≡ old.columns
  pub rows_are : new.rows ≡ old.rows
  pub faults_are : new.faults ≡ (old.faults + 1) % 2 ^ 64
  pub kind_is : new.kind ≡ kind

-- a call that writes these bytes: all of them, or a prefix of them if it fails
abbrev pub Writes : List ℕ → TermView → TermView → Result Unit Error → Type 0
Writes bytes old new result = MatchResult result (λ _. LeadsOn bytes old new) (λ e. BreaksOff bytes (error_kind e) old new)
