use Rattle.indicatif_board.proofs.PlainBoardLemmas.{board_runs_are_plain}
use Rattle.indicatif_board.proofs.laws.plain_texts_give_plain_runs.Goals as goal

pub returns : goal.returns
returns g c = board_runs_are_plain g.K.Tracks.means
