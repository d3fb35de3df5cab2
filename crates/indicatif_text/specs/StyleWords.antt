-- Styles of text: the colours and attributes named by a dotted text, and what they write. Texts are lists of characters.
use Rattle.std.specs.Prelude.{ℕ, ◌+◌, Bool, true, false, ◌==◌, List, [], ◌∷◌, ◌++◌, map, Option, None, if◌then◌else◌, codes, decimal, flat_map, filter_map, option_map, option_to_list, position, bytes_eq}
use Rattle.std.specs.List.{slice_split, last_or, list_any}
use Rattle.indicatif_text.specs.declared.style_words.BasicColour.{BasicColour}
use Rattle.indicatif_text.specs.declared.style_words.BasicColour.TheVariants.{Black, Red, Green, Yellow, Blue, Magenta, Cyan, White}
use Rattle.indicatif_text.specs.declared.style_words.Style.{Style}

-- the words of the eight colours, in the order of their numbers
abbrev pub colour_words : List (List ℕ)
colour_words = codes "black" ∷ codes "red" ∷ codes "green" ∷ codes "yellow" ∷ codes "blue" ∷ codes "magenta" ∷ codes "cyan" ∷ codes "white" ∷ []

-- the words of the attributes with their numbers, sorted
abbrev pub attribute_words : List (List ℕ × ℕ)
attribute_words = (codes "bold", 1) ∷ (codes "dim", 2) ∷ (codes "underlined", 4) ∷ (codes "blink", 5) ∷ (codes "reverse", 7) ∷ (codes "hidden", 8) ∷ []

-- the words of the eight backgrounds: those of the colours with `on_` before
abbrev pub background_words : List (List ℕ)
background_words = map (λ word. codes "on_" ++ word) colour_words

-- the number of a colour's word: its place among the words, from a first number on
abbrev pub colour_number : ℕ → List (List ℕ) → List ℕ → Option ℕ
colour_number first words word = option_map (λ k. first + k) (position (bytes_eq word) words)

-- the words of a style, which dots separate
abbrev pub style_words : List ℕ → List (List ℕ)
style_words = slice_split (λ c. c == 0x2E)

-- whether a word stands among the words
abbrev pub has_word : List (List ℕ) → List ℕ → Bool
has_word words word = list_any (λ w. bytes_eq w word) words

-- a number that is written if a test holds
abbrev pub number_if : Bool → ℕ → List ℕ
number_if test number = if test then number ∷ [] else []

-- the numbers of the attributes that stand among the words
abbrev pub attributes_of : List (List ℕ) → List ℕ
attributes_of words = flat_map (λ (word, number). number_if (has_word words word) number) attribute_words

-- a style as the numbers that it writes: the last foreground (from 30 on), the last background (from 40 on), the attributes
unfoldable pub style_of : List ℕ → List ℕ
style_of text =
    let words = style_words text in
    option_to_list (last_or None (filter_map (colour_number 30 colour_words) words)) ++ option_to_list (last_or None (filter_map (colour_number 40 background_words) words)) ++ attributes_of words

-- the colour sequence of a number
abbrev pub sequence_of : ℕ → List ℕ
sequence_of number = (0x1B ∷ 0x5B ∷ []) ++ decimal number ++ codes "m"

-- a text in a style: with colours on, the sequences stand before it, and a reset after it
abbrev pub styled : Bool → List ℕ → List ℕ → List ℕ
styled colours [] text = text
styled false (number ∷ numbers) text = text
styled true (number ∷ numbers) text = flat_map sequence_of (number ∷ numbers) ++ text ++ sequence_of 0

-- the sequences that stand before a text
abbrev pub opening_of : Bool → List ℕ → List ℕ
opening_of false numbers = []
opening_of true numbers = flat_map sequence_of numbers

-- ---- the numbers of a `Style`

-- the place of a colour among the eight
abbrev pub colour_place : BasicColour → ℕ
colour_place Black = 0
colour_place Red = 1
colour_place Green = 2
colour_place Yellow = 3
colour_place Blue = 4
colour_place Magenta = 5
colour_place Cyan = 6
colour_place White = 7

-- the number of a style's foreground
abbrev pub foreground_number : Style → Option ℕ
foreground_number s = option_map (λ c. 30 + colour_place c) s.foreground

-- the number of a style's background
abbrev pub background_number : Style → Option ℕ
background_number s = option_map (λ c. 40 + colour_place c) s.background

-- the numbers that a style writes
unfoldable pub numbers_of : Style → List ℕ
numbers_of s =
    option_to_list (foreground_number s) ++ option_to_list (background_number s)
    ++ (number_if s.bold 1 ++ (number_if s.dim 2 ++ (number_if s.underlined 4 ++ (number_if s.blink 5 ++ (number_if s.reverse 7 ++ (number_if s.hidden 8 ++ []))))))
