use Rattle.std.proofs.Common.{refl}
use Rattle.std.specs.Fmt.{digits}
use Rattle.indicatif_text.specs.Format.{count_and_unit, human_duration, short_duration, formatted_duration}
use Rattle.indicatif_text.proofs.cases.durations.Goals as goal

pub returns-clause-words : goal.returns-clause-words
unfolding digits count_and_unit human_duration
returns-clause-words c = (refl, refl, refl, refl, refl, refl, refl, refl)

pub returns-clause-short : goal.returns-clause-short
unfolding digits count_and_unit short_duration
returns-clause-short c = (refl, refl)

pub returns-clause-formatted : goal.returns-clause-formatted
unfolding digits formatted_duration
returns-clause-formatted c = (refl, refl, refl, refl)
