use Rattle.std.proofs.Common.{◌≡◌, map, take}
use Rattle.indicatif_board.specs.Receipts.{step_claimed}
use Rattle.uses.proofs.receipts.are_all.Given as goal

abbrev pub invariant-loop-number : goal.invariant-loop-number
invariant-loop-number g l = map step_claimed (take l.number l.receipts) ≡ take l.number l.history.steps
