use Rattle.std.proofs.Common.{subst}
use Rattle.indicatif_bar.specs.Styles.{BarStyle}
use Rattle.indicatif_bar.specs.StyleLaws.{AreTaken}
use Rattle.indicatif_bar.proofs.style.ProgressStyle.itself.Goals as goal

pub returns-clause-taken : goal.returns-clause-taken
returns-clause-taken g c = subst (λ (s : BarStyle g.row.K.Denot). AreTaken s.clusters) c.self.view_is c.self.invariant.4
