use Rattle.indicatif_board.proofs.LeavingLemmas.{slot_behind_head, slot_beside_gone, slot_around_new}
use Rattle.indicatif_board.proofs.laws.each_bar_stays_in_its_slot.Goals as goal

pub returns-clause-head : goal.returns-clause-head
returns-clause-head c = slot_behind_head

pub returns-clause-out : goal.returns-clause-out
returns-clause-out c = slot_beside_gone

pub returns-clause-new : goal.returns-clause-new
returns-clause-new c = slot_around_new
