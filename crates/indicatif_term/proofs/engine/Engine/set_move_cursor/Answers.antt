use Rattle.indicatif_term.specs.Engines.{Fits}
use Rattle.indicatif_term.proofs.engine.Engine.set_move_cursor.Goals as goal

pub returns-clause-lists : goal.returns-clause-lists
unfolding Fits
returns-clause-lists g c = λ l fits. fits
