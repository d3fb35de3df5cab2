use Rattle.indicatif_board.specs.Boards.{board}
use Rattle.indicatif_bar.proofs.RunLemmas.{read_after}
use Rattle.indicatif_board.proofs.laws.what_a_run_reads.Goals as goal

pub returns : goal.returns
returns g c = λ kind mark. read_after (board kind mark)
