use Rattle.indicatif_board.proofs.OrderLemmas.{numbers_count, numbers_new, gone_kept}
use Rattle.indicatif_board.proofs.laws.numbers_are_never_used_again.Goals as goal

pub returns-clause-counted : goal.returns-clause-counted
returns-clause-counted g c = numbers_count

pub returns-clause-new : goal.returns-clause-new
returns-clause-new g c = numbers_new

pub returns-clause-gone : goal.returns-clause-gone
returns-clause-gone g c = gone_kept
