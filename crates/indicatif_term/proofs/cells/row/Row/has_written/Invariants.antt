use Rattle.std.proofs.Common.{◌≡◌, take, false}
use Rattle.std.specs.List.{list_any}
use Rattle.indicatif_term.specs.Pictures.{is_written}
use Rattle.indicatif_term.proofs.cells.row.Row.has_written.Given as goal

abbrev pub invariant-loop-cell : goal.invariant-loop-cell
invariant-loop-cell l = list_any is_written (take l.cell-index l.cell-items) ≡ false
