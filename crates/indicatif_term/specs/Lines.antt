-- What a draw shows: the lines of bars, and a logged text; and why they are refused.
use Rattle.std.specs.Prelude.{◌≡◌, ℕ, ◌<◌, Bool, IsTrue, IsFalse, List, [], ◌∷◌, map, flat_map, chars, string_bytes, true, false}
use Rattle.std.specs.List.{list_any, list_all}
use Rattle.std.specs.Str.Lines.{lines}
use Rattle.indicatif_text.specs.Columns.{has_wide, is_plain}
use Rattle.indicatif_text.specs.declared.refusal.Refusal.{Refusal}
use Rattle.indicatif_text.specs.declared.refusal.Refusal.TheVariants.{NoColumns, TooWide, Terminal, Memory}
use Rattle.indicatif_term.specs.Lists.{BarLines}
use Rattle.indicatif_term.specs.declared.target.lines.Segment.{Segment}
use Rattle.indicatif_term.specs.declared.target.lines.LineType.{LineType}
use Rattle.indicatif_term.specs.declared.target.lines.LineType.TheVariants.{Text, Bar, Empty}

-- ---- the lines of bars

-- the bytes of a line
abbrev pub line_text : LineType → List ℕ
line_text (Text s) = string_bytes s
line_text (Bar s) = string_bytes s
line_text Empty = []

-- a bar with the characters of its lines
abbrev pub bar_lines : Segment → BarLines
bar_lines s = record { bar = s.bar; lines = map (λ line. chars (line_text line)) s.lines.items }

-- the lines of all bars, in order
abbrev pub all_lines : List BarLines → List (List ℕ)
all_lines frame = flat_map (λ (s : BarLines). s.lines) frame

-- ---- a logged text

-- its lines, ended by LF or CR LF; an empty text is one empty line
abbrev pub logged_lines : List ℕ → List (List ℕ)
logged_lines [] = [] ∷ []
logged_lines (b ∷ text) = lines (b ∷ text)

-- the characters of lines
abbrev pub text_lines : List (List ℕ) → List (List ℕ)
text_lines text = map chars text

-- ---- what lines hold

-- whether a line holds a character wider than w columns
abbrev pub some_wide : ℕ → List (List ℕ) → Bool
some_wide w lines = list_any (has_wide w) lines

-- whether each visible character of the lines has a width, so that none is a control character
abbrev pub are_plain : List (List ℕ) → Bool
are_plain lines = list_all is_plain lines

-- ---- refusals

-- whether a refusal is right for these lines on a terminal of w columns
abbrev pub RefusesLines : ℕ → List (List ℕ) → Refusal → Type 0
RefusesLines w lines NoColumns = w ≡ 0
RefusesLines w lines TooWide = (0 < w) × IsTrue (some_wide w lines)
RefusesLines w lines (Terminal kind) = (0 < w) × IsFalse (some_wide w lines)
RefusesLines w lines Memory = Unit {0}
RefusesLines w lines _ = ⊥

-- whether a refusal is the terminal's own failure
abbrev pub is_fault : Refusal → Bool
is_fault (Terminal kind) = true
is_fault _ = false
