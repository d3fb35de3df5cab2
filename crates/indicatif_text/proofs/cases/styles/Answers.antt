use Rattle.std.proofs.Common.{refl}
use Rattle.std.specs.Fmt.{digits}
use Rattle.indicatif_text.specs.StyleWords.{style_of}
use Rattle.indicatif_text.proofs.cases.styles.Goals as goal

pub returns-clause-text : goal.returns-clause-text
unfolding digits style_of
returns-clause-text c = (refl, refl, refl, refl)

pub returns-clause-numbers : goal.returns-clause-numbers
unfolding style_of
returns-clause-numbers c = refl
