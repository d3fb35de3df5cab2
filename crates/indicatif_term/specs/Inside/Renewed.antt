-- New lines in the place of those that stand.
use Rattle.std.specs.Prelude.{◌≡◌, ℕ, suc, ◌<◌, ◌≤◌, IsTrue, IsFalse, List, [], ◌∷◌, map, length, set, get_or, chars, string_bytes}
use Rattle.indicatif_text.specs.Columns.{Cell, has_wide, rows_of, last_columns}
use Rattle.indicatif_term.specs.Shows.{looks_of}
use Rattle.indicatif_term.specs.Standing.{placed_of, texts, IsLine}
use Rattle.indicatif_term.specs.Inside.Inks.{IsRead}
use Rattle.indicatif_term.specs.Inside.Changing.{Becomes, Ends}
use Rattle.indicatif_term.specs.Inside.Parting.{IsTurned, IsReady}
use Rattle.indicatif_term.specs.declared.engine.remembered.StandingLine.{StandingLine}
use Rattle.indicatif_term.specs.declared.engine.beside.NewLine.{NewLine}

-- ---- new lines over old ones

-- a line of this text agrees with its measures, has this many rows, and replaces the line at that index, which has an old text
pub record IsNew (w at rows : ℕ) (old text : List ℕ) (n : NewLine) : Type 0 where
  pub at_is : n.at ≡ at
  pub text_is : string_bytes n.text ≡ text
  pub rows_are : rows ≡ length (rows_of w (chars text))
  pub last_is : n.turn.last ≡ last_columns w (chars text)
  pub narrow : IsFalse (has_wide w (chars text))
  pub single : IsTrue n.turn.narrow → IsRead (chars text)
  pub turned : IsTurned w n.turn.step old text

-- the rows of each line
abbrev pub heights : List StandingLine → List ℕ
heights ls = map (λ (l : StandingLine). l.rows) ls

-- a new line has as many rows as the one that it replaces, one of the first of these
abbrev pub FitsIn : ℕ → List StandingLine → ℕ → NewLine → Type 0
FitsIn w on count n = (n.at < count) × IsNew w n.at (get_or (heights on) n.at 0) (get_or (texts on) n.at []) (string_bytes n.text) n

-- new lines, each below the one before it, from a place on
abbrev pub AreFittingFrom : ℕ → List StandingLine → ℕ → ℕ → List NewLine → Type 0
AreFittingFrom w on from count [] = Unit {0}
AreFittingFrom w on from count (n ∷ new) = (from ≤ n.at) × FitsIn w on count n × AreFittingFrom w on (suc n.at) count new

abbrev pub AreFitting : ℕ → List StandingLine → ℕ → List NewLine → Type 0
AreFitting w on count new = AreFittingFrom w on 0 count new

-- texts with those of new lines at their places
abbrev pub renewed : List (List ℕ) → List NewLine → List (List ℕ)
renewed ts [] = ts
renewed ts (n ∷ new) = set (renewed ts new) n.at (string_bytes n.text)

-- a line replaces another with as many rows
pub record IsInPlace (w : ℕ) (o l : StandingLine) : Type 0 where
  pub rows_are : l.rows ≡ o.rows
  pub line : IsLine w l

-- the change of a line leads to another, and can be written
pub record IsOver (w : ℕ) (o l : StandingLine) : Type 0 where
  pub becomes : (stood : List (List Cell)) → stood ≡ looks_of (rows_of w (chars (string_bytes o.text))) → Becomes w (placed_of l).change stood (string_bytes l.text)
  pub ready : IsReady l.step (string_bytes l.before) (string_bytes l.text)
  pub waiting : IsTrue (placed_of l).waits → Ends w (placed_of l).change (string_bytes l.text)

-- lines replace others
abbrev pub AreInPlace : ℕ → List StandingLine → List StandingLine → Type 0
AreInPlace w [] [] = Unit {0}
AreInPlace w (o ∷ on) (l ∷ ls) = IsInPlace w o l × AreInPlace w on ls
AreInPlace w _ _ = ⊥

abbrev pub AreOver : ℕ → List StandingLine → List StandingLine → Type 0
AreOver w [] [] = Unit {0}
AreOver w (o ∷ on) (l ∷ ls) = IsOver w o l × AreOver w on ls
AreOver w _ _ = ⊥
