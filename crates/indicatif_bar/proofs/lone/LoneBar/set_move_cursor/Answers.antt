use Rattle.indicatif_bar.specs.LoneBars.{LoneIsIn}
use Rattle.indicatif_bar.proofs.lone.LoneBar.set_move_cursor.Goals as goal

pub returns-clause-state : goal.returns-clause-state
unfolding LoneIsIn
returns-clause-state g c = λ s inside. (inside.0, c.set_move_cursor.ensures.staged s.limiter s.lists inside.1)
