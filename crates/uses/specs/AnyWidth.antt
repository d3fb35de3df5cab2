-- Lines that are drawn on a terminal of unknown width, and which rows stand above them.
use Rattle.std.specs.Prelude.{◌≡◌, ℕ, ◌<◌, true, IsTrue, List, [], ◌∷◌}
use Rattle.indicatif_term.specs.Screen.{Screen}
use Rattle.indicatif_term.specs.Calls.{TermView, is_told, led_on, line_bytes, clear_bytes, move_bytes, UP}
use Rattle.indicatif_term.specs.Modes.{mode_resting, ModeRowsStay}
use Rattle.indicatif_term.specs.EndedRows.{HasCursor}
use Rattle.indicatif_term.specs.OwnRows.{inner_term}
use Rattle.indicatif_term.specs.declared.target.own_rows.OwnRows.{OwnRows}

-- calls that write a line twice
abbrev pub two_lines : List ℕ → List (List ℕ)
two_lines text = line_bytes text ∷ line_bytes text ∷ [] ∷ []

-- calls that write a line over two
abbrev pub in_place : List ℕ → List (List ℕ)
in_place text = move_bytes UP 2 ∷ clear_bytes ∷ line_bytes text ∷ clear_bytes ∷ line_bytes text ∷ [] ∷ []

-- what was written to the terminal behind an `OwnRows` since it was made: on any terminal that got these bytes, with any number of columns, the rows above its cursor's stand after each byte
pub record RowsAboveStand {T : Type 0} (view : T → TermView) (term : T) (own : OwnRows T) : Type 0 where
  pub bytes : List ℕ
  pub told_is : IsTrue (is_told (view term).told) → (view (inner_term own)).told ≡ led_on (view term).told bytes
  pub stays : (real : Screen) → HasCursor real → 0 < real.columns → ModeRowsStay real.row (mode_resting true real) bytes
