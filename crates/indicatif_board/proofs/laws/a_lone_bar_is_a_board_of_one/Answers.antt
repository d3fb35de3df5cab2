use Rattle.indicatif_board.specs.BoardBars.{board_bars}
use Rattle.indicatif_board.proofs.LoneBoardLemmas.{one_taken_in, lone_runs_carried}
use Rattle.indicatif_board.proofs.laws.a_lone_bar_is_a_board_of_one.Goals as goal

pub returns-clause-begins : goal.returns-clause-begins
returns-clause-begins g c = one_taken_in

pub returns-clause-runs : goal.returns-clause-runs
returns-clause-runs g c = lone_runs_carried (board_bars g.K.Tracks.means)
