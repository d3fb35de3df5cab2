use Rattle.indicatif_bar.proofs.BoundLemmas.{runs_bounded, runs_bounded_from, run_spends}
use Rattle.indicatif_board.specs.Boards.{board}
use Rattle.indicatif_board.proofs.BoundLemmas.{board_limited, board_free}
use Rattle.indicatif_board.proofs.laws.a_board_is_limited.Goals as goal

pub returns-clause-asks : goal.returns-clause-asks
returns-clause-asks g c = board_limited

pub returns-clause-bounded : goal.returns-clause-bounded
returns-clause-bounded g c = λ kind mark. runs_bounded (board kind mark) (λ s. s.limiter) (board_limited kind mark)

pub returns-clause-from_any : goal.returns-clause-from_any
returns-clause-from_any g c = λ kind mark. runs_bounded_from (board kind mark) (λ s. s.limiter) (board_limited kind mark)

pub returns-clause-spends : goal.returns-clause-spends
returns-clause-spends g c = λ kind mark. run_spends (board kind mark) (λ s. s.limiter) (board_limited kind mark)

pub returns-clause-free : goal.returns-clause-free
returns-clause-free g c = board_free
