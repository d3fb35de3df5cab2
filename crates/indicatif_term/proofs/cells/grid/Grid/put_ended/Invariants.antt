use Rattle.std.proofs.Common.{◌≡◌, take}
use Rattle.indicatif_term.specs.Inside.Resizing.{rows_ended}
use Rattle.indicatif_term.proofs.cells.grid.Grid.put_ended.Given as goal

abbrev pub invariant-loop-row : goal.invariant-loop-row
invariant-loop-row l = l.self ≡ rows_ended l.initial.self (take l.row-index l.rows)
