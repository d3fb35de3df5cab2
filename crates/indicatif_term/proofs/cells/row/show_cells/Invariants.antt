use Rattle.std.proofs.Common.{◌≡◌, ◌++◌, take, map, encode_utf8_all, string_bytes}
use Rattle.std.specs.Prelude.{flat_map}
use Rattle.indicatif_term.specs.Pictures.{cell_text}
use Rattle.indicatif_term.specs.Inside.Rows.{cell_shown}
use Rattle.indicatif_term.proofs.cells.row.show_cells.Given as goal

abbrev pub invariant-loop-cell : goal.invariant-loop-cell
invariant-loop-cell l =
    string_bytes l.out ≡ string_bytes l.initial.out ++ encode_utf8_all (flat_map cell_text (map (cell_shown l.joiners) (take l.cell-index l.cells)))
