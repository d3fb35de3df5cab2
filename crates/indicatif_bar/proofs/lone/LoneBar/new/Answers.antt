use Rattle.indicatif_bar.specs.LoneBars.{LoneIsIn}
use Rattle.indicatif_bar.proofs.lone.LoneBar.new.Goals as goal

pub returns-clause-state : goal.returns-clause-state
unfolding LoneIsIn
returns-clause-state g c = (c.new.ensures, c.new-stage.ensures.staged)
