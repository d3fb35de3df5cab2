use Rattle.indicatif_text.proofs.FormatLawLemmas.{nearest}
use Rattle.indicatif_text.proofs.laws.quotients.Goals as goal

pub returns-clause-near : goal.returns-clause-near
returns-clause-near c = λ a b some. let is = nearest a b some in (is.above, is.below)

pub returns-clause-even : goal.returns-clause-even
returns-clause-even c = λ a b some tie. (nearest a b some).even tie
