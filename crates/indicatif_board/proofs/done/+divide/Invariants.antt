use Rattle.indicatif_board.proofs.done.+divide.Given as goal

abbrev pub decreases-divide : goal.decreases-divide
decreases-divide l = l.count
