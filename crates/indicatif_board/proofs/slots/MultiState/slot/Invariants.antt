use Rattle.std.proofs.Common.{◌≡◌, drop}
use Rattle.indicatif_board.specs.Slots.{slot_in}
use Rattle.indicatif_board.proofs.slots.MultiState.slot.Given as goal

abbrev pub invariant-loop-at : goal.invariant-loop-at
invariant-loop-at l = slot_in l.number l.self.order l.self.slots ≡ slot_in l.number (drop l.at l.self.order) (drop l.at l.self.slots)
