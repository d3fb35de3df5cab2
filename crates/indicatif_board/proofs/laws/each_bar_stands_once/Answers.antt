use Rattle.indicatif_board.proofs.OrderLemmas.{stands_at_first, stands_kept}
use Rattle.indicatif_board.proofs.laws.each_bar_stands_once.Goals as goal

pub returns-clause-first : goal.returns-clause-first
returns-clause-first g c = stands_at_first

pub returns-clause-kept : goal.returns-clause-kept
returns-clause-kept g c = stands_kept
