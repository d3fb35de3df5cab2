use Rattle.std.proofs.Common.{refl}
use Rattle.indicatif_term.specs.Target.{limiter_of}
use Rattle.indicatif_board.specs.Multi.{IsIn}
use Rattle.indicatif_board.proofs.multi.Board.new.Goals as goal

pub returns-clause-state : goal.returns-clause-state
unfolding IsIn
returns-clause-state g c = (refl, c.new.ensures.state (limiter_of c.args.target), c.new-2.ensures.staged)
