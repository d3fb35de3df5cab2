-- The step that the bar answers is by the sum as it was closed, which is what was added.
use Rattle.std.proofs.Common.{subst}
use Rattle.indicatif_bar.specs.Commands as Command
use Rattle.indicatif_bar.specs.Lone as Lone
use Rattle.indicatif.specs.Fronts.{CanAnswer}
use Rattle.indicatif.proofs.shared.ProgressBar.absorb.Goals as goal

-- src/counting.rt:38:5
pub returns : goal.returns
returns g c = subst (λ n. CanAnswer _ (Lone.Obey (Command.Inc n)) c.inc.result) c.close.ensures.sum c.inc.ensures
