-- The lines that stand on a terminal.
use Rattle.std.specs.Prelude.{◌≡◌, ℕ, IsTrue, IsFalse, List, map, length, flat_map, chars, string_bytes}
use Rattle.std.specs.List.{AllByRecursion}
use Rattle.indicatif_text.specs.Columns.{Cell, has_wide, rows_of, last_columns}
use Rattle.indicatif_term.specs.Inside.Changing.{PlacedLine}
use Rattle.indicatif_term.specs.Inside.Inks.{IsRead}
use Rattle.indicatif_term.specs.Inside.Parting.{change_of, waits_of, IsReady}
use Rattle.indicatif_term.specs.declared.engine.remembered.StandingLine.{StandingLine}

-- a line as it is written, and its bytes
abbrev pub placed_of : StandingLine → PlacedLine
placed_of l = record {
  line = string_bytes l.text;
  rows = l.rows;
  last = l.last;
  change = change_of l.step (string_bytes l.before) (string_bytes l.text);
  waits = waits_of l.step;
}

abbrev pub placed : List StandingLine → List PlacedLine
placed ls = map placed_of ls

abbrev pub texts : List StandingLine → List (List ℕ)
texts ls = map (λ (l : StandingLine). string_bytes l.text) ls

-- their rows on a terminal of w columns
abbrev pub standing_rows : ℕ → List StandingLine → List (List Cell)
standing_rows w ls = flat_map (λ line. rows_of w (chars line)) (texts ls)

-- a line agrees with its measures there
pub record IsLine (w : ℕ) (l : StandingLine) : Type 0 where
  pub rows_are : l.rows ≡ length (rows_of w (chars (string_bytes l.text)))
  pub last_is : l.last ≡ last_columns w (chars (string_bytes l.text))
  pub narrow : IsFalse (has_wide w (chars (string_bytes l.text)))
  pub single : IsTrue l.narrow → IsRead (chars (string_bytes l.text))

abbrev pub AreLines : ℕ → List StandingLine → Type 0
AreLines w ls = AllByRecursion (IsLine w) ls

-- the change of each line can be written
abbrev pub AreReady : List StandingLine → Type 0
AreReady ls = AllByRecursion (λ (l : StandingLine). IsReady l.step (string_bytes l.before) (string_bytes l.text)) ls
