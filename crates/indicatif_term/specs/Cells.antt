-- A terminal in memory: its cells, its faults, and its calls, as text.
use Rattle.std.specs.Prelude.{◌≡◌, ◌⊎◌, ℕ, ◌+◌, ◌/◌, ◌%◌, ◌==◌, ◌||◌, nat_lt, List, [], ◌∷◌, ◌++◌, flat_map, decimal, codes, chars, encode_utf8_all, if◌then◌else◌, Result, MatchResult}
use Rattle.indicatif_term.specs.Terminal.{Terminal}
use Rattle.indicatif_term.specs.Calls.{TermView, State}
use Rattle.std.specs.declared.io.ErrorKind.TheVariants.{OutOfMemory}

-- what contracts see of a terminal in memory
pub record MemoryTerm : Type 0 where
  pub terminal : Terminal
  -- how often a call has failed, modulo 2^64
  pub faults : ℕ
  -- the text of the calls since the last check, one a line
  pub moves : List ℕ

-- what contracts see of it as of any terminal; a call fails only for want of memory
abbrev pub view_of : MemoryTerm → TermView
view_of m = record { told = State m.terminal; columns = m.terminal.screen.columns; rows = m.terminal.screen.height; faults = m.faults; kind = OutOfMemory }

-- how the calls' text changes: this call's line is added at its end; if the call fails, it is added or not
abbrev pub Records : {E : Type 0} → List ℕ → MemoryTerm → MemoryTerm → Result Unit E → Type 0
Records text old new result =
    MatchResult result (λ _. new.moves ≡ old.moves ++ text) (λ _. (new.moves ≡ old.moves) ⊎ (new.moves ≡ old.moves ++ text))

-- ---- the text of the calls

-- a name, a number between parentheses, and a line feed
abbrev pub move_text : List ℕ → ℕ → List ℕ
move_text name n = name ++ codes "(" ++ decimal n ++ codes ")\n"

-- a digit of base 16
abbrev pub hex_digit : ℕ → ℕ
hex_digit d = if nat_lt d 10 then 0x30 + d else 0x57 + d

-- a code below 128 as an escape
abbrev pub code_text : ℕ → List ℕ
code_text c = codes "\\u{" ++ (if nat_lt c 16 then [] else hex_digit (c / 16) ∷ []) ++ hex_digit (c % 16) ∷ codes "}"

-- a character between quotation marks, as Rust's `{:?}` writes it: an ASCII control character by an escape
abbrev pub quoted_char : ℕ → List ℕ
quoted_char c =
    if (c == 0x22) || (c == 0x5C) then 0x5C ∷ c ∷ []
    else if c == 0x0A then codes "\\n"
    else if c == 0x0D then codes "\\r"
    else if c == 0x09 then codes "\\t"
    else if c == 0x00 then codes "\\0"
    else if nat_lt c 0x20 || (c == 0x7F) then code_text c
    else c ∷ []

-- a written text, and a line feed
abbrev pub written_text : List ℕ → List ℕ
written_text text = codes "Str(\"" ++ encode_utf8_all (flat_map quoted_char (chars text)) ++ codes "\")\n"
