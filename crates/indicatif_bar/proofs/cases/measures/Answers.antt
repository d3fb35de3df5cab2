use Rattle.std.proofs.Common.{refl}
use Rattle.indicatif_bar.proofs.cases.measures.Goals as goal

pub returns-clause-fractions : goal.returns-clause-fractions
returns-clause-fractions c = (refl, refl, refl, refl, refl)

pub returns-clause-greatest : goal.returns-clause-greatest
returns-clause-greatest c = (refl, refl, refl, refl, refl)

pub returns-clause-rates : goal.returns-clause-rates
returns-clause-rates c = (refl, refl)
