use Rattle.std.proofs.Common.{refl}
use Rattle.std.specs.Fmt.{digits}
use Rattle.indicatif_text.specs.Format.{round, human_count, human_float_count}
use Rattle.indicatif_text.proofs.cases.counts.Goals as goal

pub returns-clause-whole : goal.returns-clause-whole
unfolding digits human_count
returns-clause-whole c = (refl, refl, refl, refl, refl)

pub returns-clause-rounded : goal.returns-clause-rounded
unfolding digits round human_count human_float_count
returns-clause-rounded c = (refl, refl, refl, refl, refl, refl, refl, refl)
