use Rattle.indicatif_board.specs.BoardBars.{board_bars}
use Rattle.indicatif_board.proofs.BoardRunLemmas.{board_read_after}
use Rattle.indicatif_board.proofs.laws.what_a_board_run_reads.Goals as goal

pub returns : goal.returns
returns g c = board_read_after (board_bars g.K.Tracks.means)
