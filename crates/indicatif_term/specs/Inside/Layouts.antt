-- A frame laid out beside the lines that stand.
use Rattle.std.specs.Prelude.{◌≡◌, ℕ, ◌+◌, ◌-◌, ◌<◌, ◌≤◌, max, false, Bool, IsTrue, IsFalse, List, [], ◌∷◌, ◌++◌, chars, map, length, take, drop, get_or, replicate, string_bytes, Result, MatchResult}
use Rattle.std.specs.List.{AllByRecursion}
use Rattle.indicatif_text.specs.Columns.{Cell, has_wide, rows_of, last_columns}
use Rattle.indicatif_text.specs.declared.refusal.Refusal.{Refusal}
use Rattle.indicatif_term.specs.Lists.{BarRows, lines_of, blanks_for}
use Rattle.indicatif_term.specs.Shows.{looks_of}
use Rattle.indicatif_term.specs.Counts.{RowCount, line_counts}
use Rattle.indicatif_term.specs.Lines.{bar_lines, all_lines, line_text, some_wide}
use Rattle.indicatif_term.specs.Remembered.{live_lines}
use Rattle.indicatif_term.specs.Inside.Inks.{IsRead}
use Rattle.indicatif_term.specs.Inside.Owned.{blank_count, no_plan}
use Rattle.indicatif_term.specs.Inside.Changing.{AreSitting}
use Rattle.indicatif_term.specs.Inside.Plans.{IsPlan, IsSummed, IsLaidOut, IsWithheld, frame_lines, passing_of}
use Rattle.indicatif_term.specs.Inside.Renewed.{AreFitting, renewed}
use Rattle.indicatif_term.specs.Standing.{placed, texts, standing_rows, AreLines, AreReady}
use Rattle.indicatif_term.specs.declared.engine.comparing.Turn.{Turn}
use Rattle.indicatif_term.specs.declared.engine.layout.Laid.{Laid}
use Rattle.indicatif_term.specs.declared.engine.layout.OwnLine.{OwnLine}
use Rattle.indicatif_term.specs.declared.target.lines.LineType.{LineType}
use Rattle.indicatif_term.specs.declared.target.lines.Segment.{Segment}
use Rattle.indicatif_term.specs.declared.engine.comparing.Step.TheVariants.{Whole}
use Rattle.indicatif_term.specs.declared.engine.remembered.Remembered.{Remembered}
use Rattle.indicatif_term.specs.declared.engine.remembered.Span.{Span}
use Rattle.indicatif_term.specs.declared.engine.remembered.StandingLine.{StandingLine}

-- a line of these characters agrees with its measures
pub record IsSized (w : ℕ) (line : List ℕ) (t : Turn) : Type 0 where
  pub rows_are : t.rows ≡ length (rows_of w line)
  pub last_is : t.last ≡ last_columns w line
  pub narrow : IsFalse (has_wide w line)
  pub single : IsTrue t.narrow → IsRead line

-- lines that are written as a whole
abbrev pub AreWhole : List StandingLine → Type 0
AreWhole ls = AllByRecursion (λ (l : StandingLine). l.step ≡ Whole) ls

-- the first so many lines are blank ones
pub record AreBlank (blanks : ℕ) (on : List StandingLine) : Type 0 where
  pub in_lines : blanks ≤ length on
  pub empty : texts (take blanks on) ≡ replicate blanks []
  pub counts : line_counts (take blanks on) ≡ replicate blanks blank_count

-- ---- beside the lines that stand

-- those that keep their rows, and the lines below them
abbrev pub laid_lines : List StandingLine → Laid → List StandingLine
laid_lines on l = take l.at on ++ l.more.items

-- behind the blank ones
abbrev pub own_lines : List StandingLine → Laid → List StandingLine
own_lines on l = drop l.blanks (laid_lines on l)

-- their texts, with those of the new lines
abbrev pub laid_texts : List StandingLine → Laid → List (List ℕ)
laid_texts on l = take l.at (renewed (texts on) l.changed.items) ++ texts l.more.items

-- a line stands where the next one of this bar is to stand
pub record IsBeside (h : ℕ) (on : List StandingLine) (l : Laid) (bar : ℕ) (x : StandingLine) : Type 0 where
  pub none_below : l.more.items ≡ []
  pub not_full : l.plan.full ≡ false
  pub within : l.at < length on
  pub line_is : get_or on l.at x ≡ x
  pub bar_is : x.bar ≡ bar
  pub fits : x.rows ≤ h - l.plan.rows

-- so many blank lines, and the lines of a frame that its plan shows, of lines with these bytes, bars and rows
pub record IsLaid (w h : ℕ) (on : List StandingLine) (before : List (List ℕ)) (bars : List BarRows) (l : Laid) : Type 0 where
  pub at_in : l.at ≤ length on
  pub blanks_in : l.blanks ≤ l.at + length l.more.items
  pub fit : AreFitting w on l.at l.changed.items
  pub lines_in : l.plan.lines ≤ length before
  pub all_in : l.plan.full ≡ false → l.plan.lines ≡ length before
  pub texts_are : laid_texts on l ≡ replicate l.blanks [] ++ take l.plan.lines before
  pub counts : List RowCount
  pub counts_are : line_counts (laid_lines on l) ≡ replicate l.blanks blank_count ++ counts
  pub laid : IsLaidOut h bars l.plan counts
  pub measured : AreLines w l.more.items
  pub whole : AreWhole l.more.items

-- lines with these bytes, characters, bars and rows, laid out behind those before them
pub record IsLaidOn (w h : ℕ) (on : List StandingLine) (texts lines : List (List ℕ)) (bars : List BarRows) (old new : Laid) : Type 0 where
  pub summed : IsSummed h new.plan
  pub passing_same : new.plan.passing ≡ old.plan.passing
  pub blanks_same : new.blanks ≡ old.blanks
  pub narrow : IsFalse (some_wide w lines)
  pub laid : (before : List (List ℕ)) (all : List BarRows) → IsLaid w h on before all old → IsLaid w h on (before ++ texts) (all ++ bars) new

-- these lines, or why they aren't
abbrev pub LaidOn : ℕ → ℕ → List StandingLine → List (List ℕ) → List (List ℕ) → List BarRows → Laid → Laid → Result Unit Refusal → Type 0
LaidOn w h on texts lines bars old new result = MatchResult result (λ _. IsLaidOn w h on texts lines bars old new) (λ e. IsWithheld w lines e)

-- one line of a bar, or why it isn't
abbrev pub LineLaidOn : ℕ → ℕ → List StandingLine → OwnLine → Laid → Laid → Result Unit Refusal → Type 0
LineLaidOn w h on own old new result =
    LaidOn w h on (own.text.now ∷ []) (chars own.text.now ∷ []) (record { bar = own.bar; rows = rows_of w (chars own.text.now) } ∷ []) old new result

-- the first i members of a frame laid out, with the first `pass` dropped
pub record FrontLaid (w h pass : ℕ) (on : List StandingLine) (frame : List Segment) (i : ℕ) (l : Laid) : Type 0 where
  pub summed : IsSummed h l.plan
  pub narrow : IsFalse (some_wide w (all_lines (map bar_lines (take i frame))))
  pub passing : l.plan.passing ≡ passing_of w h pass i frame
  pub laid : IsLaid w h on (frame_lines (take i frame)) (lines_of w (map bar_lines (take i frame))) l

-- a line has the text of the only line of a member
pub record IsOnlyLine (s : Segment) (x : StandingLine) : Type 0 where
  pub line : LineType
  pub lines_are : s.lines.items ≡ line ∷ []
  pub text_is : string_bytes x.text ≡ line_text line

-- a frame laid out, with the first `pass` members dropped
pub record IsFrameLaid (w h pass : ℕ) (on : List StandingLine) (frame : List Segment) (l : Laid) : Type 0 where
  pub narrow : IsFalse (some_wide w (all_lines (map bar_lines frame)))
  pub plan_is : IsPlan w h pass (map bar_lines frame) l.plan
  pub is_summed : IsSummed h l.plan
  pub is_laid : IsLaid w h on (frame_lines frame) (lines_of w (map bar_lines frame)) l

-- a frame laid out, or why it isn't
abbrev pub FrameLaid : ℕ → ℕ → ℕ → List StandingLine → List Segment → Laid → Result Unit Refusal → Type 0
FrameLaid w h pass on frame l result = MatchResult result (λ _. IsFrameLaid w h pass on frame l) (λ e. IsWithheld w (all_lines (map bar_lines frame)) e)

-- no line yet
pub record IsNoneLaid (l : Laid) : Type 0 where
  pub plan_is : l.plan ≡ no_plan
  pub blanks_are : l.blanks ≡ 0
  pub at_is : l.at ≡ 0
  pub none_changed : l.changed.items ≡ []
  pub none_more : l.more.items ≡ []

-- the blank lines of a drawing in the place of so many rows
pub record AreBlanksFor (bottom : Bool) (free : ℕ) (l : Laid) : Type 0 where
  pub are : (taken text : ℕ) → free ≡ taken - text → l.blanks ≡ blanks_for bottom taken text l.plan.rows
  pub room : l.blanks + l.plan.rows ≤ max free l.plan.rows

-- ---- a drawing

-- a frame is laid out for a window of w columns and h rows, beside the remembered live lines, in the place of so many rows, and none of its lines is too wide
pub record IsPlannedFor (w h pass : ℕ) (bottom : Bool) (frame : List Segment) (free : ℕ) (r : Remembered) (l : Laid) : Type 0 where
  pub frame_is : IsFrameLaid w h pass (live_lines r) frame l
  pub blanks_are : AreBlanksFor bottom free l
  pub known : 0 < l.at → r.width ≡ w

-- that, or nothing is written for this reason
abbrev pub PlannedFor : ℕ → ℕ → ℕ → Bool → List Segment → ℕ → Remembered → Laid → Result Unit Refusal → Type 0
PlannedFor w h pass bottom frame free r l result = MatchResult result (λ _. IsPlannedFor w h pass bottom frame free r l) (λ e. IsWithheld w (all_lines (map bar_lines frame)) e)

-- ---- the lines of a drawing, as they stand afterwards

-- those that keep their rows are renewed, and the others stand below them: all can be written over the rows that stand
pub record ArePut (w : ℕ) (on : List StandingLine) (l : Laid) (ls : List StandingLine) : Type 0 where
  pub texts_are : texts ls ≡ laid_texts on l
  pub counts_are : line_counts ls ≡ line_counts (laid_lines on l)
  pub right : AreLines w ls
  pub ready : AreReady ls
  pub sits : (looks : List (List Cell)) → (0 < l.at → looks ≡ looks_of (standing_rows w on)) → AreSitting w looks (placed ls)

-- a frame can be put in the place of the live lines of these, below some others of them
pub record CanPut (w : ℕ) (above : Span) (r : Remembered) (l : Laid) : Type 0 where
  pub within : above.to + l.at ≤ length r.lines
  pub known : 0 < l.at → (r.width ≡ w) × (above.to ≡ r.kept)
  pub kept : l.blanks + l.plan.passing ≤ l.at + length l.more.items
  pub fit : AreFitting w (live_lines r) l.at l.changed.items
  pub right : AreLines w (drop above.from (take above.to r.lines))
  pub more : AreLines w l.more.items
  pub whole : AreWhole l.more.items
