use Rattle.std.proofs.lemmas.Fmt.{decimal_is_IsNumeral_wide}
use Rattle.indicatif_text.proofs.CountLemmas.{count_few}
use Rattle.indicatif_text.proofs.FormatLawLemmas.{commas_aside, by_thousands}
use Rattle.indicatif_text.proofs.laws.counts.Goals as goal

pub returns-clause-digits : goal.returns-clause-digits
returns-clause-digits c = λ n small. commas_aside n small

pub returns-clause-spells : goal.returns-clause-spells
returns-clause-spells c = λ n small. (decimal_is_IsNumeral_wide n small).1

pub returns-clause-commas : goal.returns-clause-commas
returns-clause-commas c = λ n small. (λ few. count_few n few, λ more. by_thousands n more small)
