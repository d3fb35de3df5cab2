-- A plain text: a terminal takes none of its characters for a command.
use Rattle.std.specs.Prelude.{ℕ, false, List, map, is_some, if◌then◌else◌}
use Rattle.unicode_width.specs.Width.{char_width}

-- U+FFFD, which replaces a character that isn't shown
abbrev pub REPLACED : ℕ
REPLACED = 0xFFFD

-- the character if it has a width, which no control character has; otherwise U+FFFD
abbrev pub plain_char : ℕ → ℕ
plain_char c = if is_some (char_width false c) then c else REPLACED

-- a text with each character made plain
abbrev pub plain_text : List ℕ → List ℕ
plain_text text = map plain_char text
