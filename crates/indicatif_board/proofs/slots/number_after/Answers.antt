use Rattle.indicatif_board.proofs.SlotLemmas.{made_next}
use Rattle.indicatif_board.proofs.slots.number_after.Goals as goal

pub returns : goal.returns
returns c = made_next c.args.number c.checked_add.result c.ranges.number.fits c.checked_add.ensures
