use Rattle.indicatif_text.proofs.TextLawLemmas.{word_spells, word_number, one_unit, more_units, short_is}
use Rattle.indicatif_text.proofs.laws.words.Goals as goal

pub returns-clause-words : goal.returns-clause-words
returns-clause-words c = λ n small. (word_spells n small, word_number n small, λ one. one_unit n small one, λ more. more_units n small more)

pub returns-clause-short : goal.returns-clause-short
returns-clause-short c = λ n small. short_is n small
