use Rattle.std.proofs.Common.{◌≡◌, take}
use Rattle.indicatif_term.specs.Inside.Resizing.{rows_begun}
use Rattle.indicatif_term.proofs.cells.grid.Grid.put_begun.Given as goal

abbrev pub invariant-loop-row : goal.invariant-loop-row
invariant-loop-row l = l.self ≡ rows_begun l.initial.self (take l.row-index l.rows)
