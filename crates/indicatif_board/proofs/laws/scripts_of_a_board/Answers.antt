use Rattle.std.proofs.Common.{refl}
use Rattle.indicatif_bar.proofs.ScriptLemmas.{unbroken_read}
use Rattle.indicatif_bar.proofs.ScriptBoundLemmas.{scripts_bounded, scripts_bounded_from, scripts_spend}
use Rattle.indicatif_board.specs.BoardBars.{board_bars}
use Rattle.indicatif_board.specs.Boards.{board}
use Rattle.indicatif_board.specs.Multi.{board_sizing}
use Rattle.indicatif_board.proofs.BoardRunLemmas.{board_goes}
use Rattle.indicatif_board.proofs.BoundLemmas.{board_limited}
use Rattle.indicatif_board.proofs.laws.scripts_of_a_board.Goals as goal

pub returns-clause-read : goal.returns-clause-read
returns-clause-read g c = λ mark. unbroken_read (board (board_bars g.K.Tracks.means) mark) (board_sizing g.K.Tracks.means mark) (board_goes (board_bars g.K.Tracks.means) mark)

pub returns-clause-bounded : goal.returns-clause-bounded
returns-clause-bounded g c = λ mark.
    scripts_bounded (board (board_bars g.K.Tracks.means) mark) (board_sizing g.K.Tracks.means mark) (λ s. s.limiter) (board_limited (board_bars g.K.Tracks.means) mark) (λ l s. refl)

pub returns-clause-from_any : goal.returns-clause-from_any
returns-clause-from_any g c = λ mark.
    scripts_bounded_from (board (board_bars g.K.Tracks.means) mark) (board_sizing g.K.Tracks.means mark) (λ s. s.limiter) (board_limited (board_bars g.K.Tracks.means) mark) (λ l s. refl)

pub returns-clause-spends : goal.returns-clause-spends
returns-clause-spends g c = λ mark.
    scripts_spend (board (board_bars g.K.Tracks.means) mark) (board_sizing g.K.Tracks.means mark) (λ s. s.limiter) (board_limited (board_bars g.K.Tracks.means) mark) (λ l s. refl)
