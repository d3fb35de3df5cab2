-- How a frame is counted before it is written.
use Rattle.std.specs.Prelude.{◌≡◌, ℕ, ◌-◌, ◌≤◌, ◌^◌, min, true, false, IsFalse, List, [], ◌∷◌, ◌++◌, map, length, flat_map, sum_by, take, All, Result, MatchResult}
use Rattle.std.specs.Int.{IsInRange}
use Rattle.std.specs.Str.Lines.{lines}
use Rattle.indicatif_text.specs.Columns.{has_wide, rows_of, last_columns}
use Rattle.indicatif_text.specs.declared.columns.Metrics.{Metrics}
use Rattle.indicatif_text.specs.declared.refusal.Refusal.{Refusal}
use Rattle.indicatif_term.specs.Lists.{BarLines, BarRows, shown_rows, fitting, lines_of, segments_height}
use Rattle.indicatif_term.specs.Lines.{line_text, bar_lines, text_lines, some_wide, RefusesLines, is_fault}
use Rattle.indicatif_term.specs.Counts.{RowCount, row_count}
use Rattle.indicatif_term.specs.Inside.Owned.{through}
use Rattle.indicatif_term.specs.Inside.Fills.{line_end, last_or_none}
use Rattle.indicatif_term.specs.declared.target.lines.Segment.{Segment}
use Rattle.indicatif_term.specs.declared.engine.layout.Plan.{Plan}
use Rattle.indicatif_term.specs.declared.engine.logged.Logged.{Logged}
use Rattle.indicatif_term.specs.declared.engine.logged.Logged.TheVariants.{Nothing, Row, Lines}

-- ---- what a draw writes

-- the bytes of the lines of a frame
abbrev pub frame_lines : List Segment → List (List ℕ)
frame_lines frame = flat_map (λ (s : Segment). map line_text s.lines.items) frame

-- the lines of the logged text, if any
abbrev pub logged_text : Logged → List (List ℕ)
logged_text Nothing = []
logged_text (Row text) = text.now ∷ []
logged_text (Lines text) = lines text.now

-- printable ASCII that fits in a row
pub record IsPlainRow (w : ℕ) (text : List ℕ) : Type 0 where
  pub printable : All (IsInRange 0x20 0x7E) text
  pub fits : length text ≤ w

-- a logged text that is told apart as a row is one
abbrev pub HasPlainRow : ℕ → Logged → Type 0
HasPlainRow w Nothing = Unit {0}
HasPlainRow w (Row text) = IsPlainRow w text.now
HasPlainRow w (Lines text) = Unit {0}

-- how many rows lines take
abbrev pub text_height : ℕ → List (List ℕ) → ℕ
text_height w text = sum_by (λ line. length (rows_of w line)) text

-- why lines are refused before any call of the terminal
abbrev pub IsWithheld : ℕ → List (List ℕ) → Refusal → Type 0
IsWithheld w lines e = IsFalse (is_fault e) × RefusesLines w lines e

-- ---- a plan

-- lines with these counts are those of this frame that are shown
abbrev pub AreCounted : ℕ → ℕ → List BarLines → List RowCount → Type 0
AreCounted w h frame cs = cs ≡ map row_count (fitting h (lines_of w frame))

-- the counts of this frame, with the first `pass` members dropped
pub record IsPlan (w h pass : ℕ) (frame : List BarLines) (p : Plan) : Type 0 where
  pub rows_are : p.rows ≡ segments_height (shown_rows w h frame)
  pub lines_are : p.lines ≡ length (fitting h (lines_of w frame))
  pub passing_is : p.passing ≡ through (length (fitting h (lines_of w (take pass frame)))) (map row_count (fitting h (lines_of w frame)))
  pub passing_rows_are : p.passing_rows ≡ segments_height (take p.passing (fitting h (lines_of w frame)))

-- the lines of the members that are passed on, among the first i
abbrev pub passing_of : ℕ → ℕ → ℕ → ℕ → List Segment → ℕ
passing_of w h pass i frame = length (fitting h (lines_of w (map bar_lines (take (min pass i) frame))))

-- its sums are right, and it takes at most h rows
pub record IsSummed (h : ℕ) (p : Plan) : Type 0 where
  pub fit : p.rows ≤ h
  pub lines_fit : p.lines ≤ p.rows
  pub passing_in : p.passing_rows ≤ p.rows

-- the plan of these lines, before any that may follow, and the counts of those that are shown
pub record IsLaidOut (h : ℕ) (lines : List BarRows) (p : Plan) (cs : List RowCount) : Type 0 where
  pub counts_are : cs ≡ map row_count (fitting h lines)
  pub rows_are : p.rows ≡ segments_height (fitting h lines)
  pub lines_are : p.lines ≡ length (fitting h lines)
  pub all_fit : p.full ≡ false → fitting h lines ≡ lines
  pub none_more : p.full ≡ true → (more : List BarRows) → fitting h (lines ++ more) ≡ fitting h lines

-- a line's measures, or why there are none
abbrev pub MeasuredLine : ℕ → List ℕ → Result Metrics Refusal → Type 0
MeasuredLine w line result =
    MatchResult result (λ m. IsFalse (has_wide w line) × (m.height ≡ length (rows_of w line)) × (m.last_line_width ≡ last_columns w line)) (λ e. IsWithheld w (line ∷ []) e)

-- the measures of text lines, with rows up to 2^64 - 1, or why there are none
abbrev pub MeasuredText : ℕ → List (List ℕ) → Result Metrics Refusal → Type 0
MeasuredText w text result =
    MatchResult result (λ m. IsFalse (some_wide w (text_lines text)) × (m.height ≡ min (text_height w (text_lines text)) (2 ^ 64 - 1))
    × (m.last_line_width ≡ line_end w (last_or_none text))) (λ e. IsWithheld w (text_lines text) e)
