-- Styles, a word and a sequence at a time.
use Rattle.std.specs.Prelude.{◌≡◌, ℕ, Bool, not, ◌==◌, ◌||◌, bytes_eq, codes, List, [], ◌∷◌, Option, flat_map, option_to_list}
use Rattle.std.specs.List.{last_or}
use Rattle.indicatif_text.specs.declared.style_words.Style.{Style}
use Rattle.indicatif_text.specs.StyleWords.{foreground_number, background_number, colour_number, colour_words, background_words, sequence_of}

-- the foreground's number after a further word
abbrev pub foreground_after : Option ℕ → List ℕ → Option ℕ
foreground_after before word = last_or before (option_to_list (colour_number 30 colour_words word))

-- the background's number after a further word
abbrev pub background_after : Option ℕ → List ℕ → Option ℕ
background_after before word = last_or before (option_to_list (colour_number 40 background_words word))

-- a style with a further word
pub record AddsWord (s : Style) (word : List ℕ) (t : Style) : Type 0 where
  pub foreground : foreground_number t ≡ foreground_after (foreground_number s) word
  pub background : background_number t ≡ background_after (background_number s) word
  pub bold : t.bold ≡ (s.bold || bytes_eq word (codes "bold"))
  pub dim : t.dim ≡ (s.dim || bytes_eq word (codes "dim"))
  pub underlined : t.underlined ≡ (s.underlined || bytes_eq word (codes "underlined"))
  pub blink : t.blink ≡ (s.blink || bytes_eq word (codes "blink"))
  pub reverse : t.reverse ≡ (s.reverse || bytes_eq word (codes "reverse"))
  pub hidden : t.hidden ≡ (s.hidden || bytes_eq word (codes "hidden"))

-- a character of a word
abbrev pub is_word_char : ℕ → Bool
is_word_char c = not (c == 0x2E)

-- the colour sequence of a number, if there is one
abbrev pub sequence_if : Option ℕ → List ℕ
sequence_if number = flat_map sequence_of (option_to_list number)

-- what follows a text after these sequences: the reset, unless there are none
abbrev pub closing_of : List ℕ → List ℕ
closing_of [] = []
closing_of (c ∷ cs) = sequence_of 0
