use Rattle.indicatif_board.proofs.HistoryLemmas.{above_only_grows}
use Rattle.indicatif_board.proofs.laws.rows_above_are_only_added.Goals as goal

pub returns : goal.returns
returns g c = above_only_grows
