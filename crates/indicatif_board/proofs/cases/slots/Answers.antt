use Rattle.std.proofs.Common.{refl}
use Rattle.indicatif_board.proofs.cases.slots.Goals as goal

pub returns-clause-used_again : goal.returns-clause-used_again
returns-clause-used_again c = refl

pub returns-clause-freed_last_first : goal.returns-clause-freed_last_first
returns-clause-freed_last_first c = refl

pub returns-clause-each_its_own : goal.returns-clause-each_its_own
returns-clause-each_its_own c = (refl, refl, refl)
