use Rattle.indicatif_board.specs.Multi.{IsIn}
use Rattle.indicatif_board.proofs.multi.Board.set_move_cursor.Goals as goal

pub returns-clause-state : goal.returns-clause-state
unfolding IsIn
returns-clause-state g c = λ mark s inside. (inside.0, inside.1, c.set_move_cursor.ensures.staged s.limiter s.lists inside.2)
