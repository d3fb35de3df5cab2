use Rattle.indicatif_board.proofs.ReceiptLemmas.{held_stays, held_rows_stand, held_in_order}
use Rattle.indicatif_board.proofs.laws.what_a_receipt_says.Goals as goal

pub returns-clause-stays : goal.returns-clause-stays
returns-clause-stays g c = held_stays g.K.Tracks.means

pub returns-clause-rows : goal.returns-clause-rows
returns-clause-rows g c = held_rows_stand g.K.Tracks.means

pub returns-clause-in_order : goal.returns-clause-in_order
returns-clause-in_order g c = held_in_order g.K.Tracks.means
