use Rattle.indicatif_board.proofs.SeatLemmas.{slot_where_it_stands, slots_apart}
use Rattle.indicatif_board.proofs.laws.each_bar_has_its_slot.Goals as goal

pub returns-clause-some : goal.returns-clause-some
returns-clause-some c = slot_where_it_stands

pub returns-clause-apart : goal.returns-clause-apart
returns-clause-apart c = slots_apart
