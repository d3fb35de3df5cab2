use Rattle.std.proofs.Common.{◌≡◌, ◌≤◌, length, drop, map}
use Rattle.std.specs.Prelude.{true}
use Rattle.std.specs.List.{list_all}
use Rattle.indicatif_term.specs.Pictures.{is_blank}
use Rattle.indicatif_term.specs.Inside.Rows.{cell_shown}
use Rattle.indicatif_term.proofs.cells.row.shown_length.Given as goal

abbrev pub invariant-loop-shown : goal.invariant-loop-shown
invariant-loop-shown l = record {
  within : l.shown ≤ length l.cells;
  blank : list_all is_blank (drop l.shown (map (cell_shown l.joiners) l.cells)) ≡ true;
}

abbrev pub decreases-loop-shown : goal.decreases-loop-shown
decreases-loop-shown l = l.shown
