use Rattle.indicatif_text.proofs.FormatLawLemmas.{no_longer_unit, reaches_unit}
use Rattle.indicatif_text.proofs.laws.units.Goals as goal

pub returns-clause-longest : goal.returns-clause-longest
returns-clause-longest c = λ n. no_longer_unit n

pub returns-clause-reached : goal.returns-clause-reached
returns-clause-reached c = λ n. reaches_unit n
