-- The characters that a run of a text is made of.
use Rattle.std.specs.Prelude.{ℕ, Bool, true, not, ◌||◌, ◌&&◌, ◌==◌}
use Rattle.indicatif_text.specs.declared.spans.CharacterClass.{CharacterClass}
use Rattle.indicatif_text.specs.declared.spans.CharacterClass.TheVariants.{Literal, Key, Word}
use Rattle.indicatif_text.specs.declared.spans.Words.{Words}
use Rattle.indicatif_text.specs.declared.spans.Words.TheVariants.{All, Style, Alternative}
use Rattle.indicatif_text.specs.Inside.StyleWords.{is_word_char}
use Rattle.indicatif_text.specs.Template.{is_key_char, is_style_char, is_alternative_char}

-- a literal character
abbrev pub is_literal_char : ℕ → Bool
is_literal_char c = not (c == 0x0A || (c == 0x7B) || (c == 0x7D))

-- whether a character stands in words of a style or between them
abbrev pub in_words : Words → ℕ → Bool
in_words All c = true
in_words Style c = is_style_char c
in_words Alternative c = is_alternative_char c

-- whether a character belongs to a run
abbrev pub belongs : CharacterClass → ℕ → Bool
belongs Literal = is_literal_char
belongs Key = is_key_char
belongs (Word words) = λ c. in_words words c && is_word_char c

-- the table's bit of the bytes that end a run
abbrev pub bit_of : CharacterClass → ℕ
bit_of Literal = 1
bit_of Key = 2
bit_of (Word All) = 4
bit_of (Word Style) = 8
bit_of (Word Alternative) = 16
