use Rattle.indicatif_text.proofs.QuotientLemmas.{length-last_digits}
use Rattle.indicatif_text.proofs.FormatLawLemmas.{digits_value-last, digits_spell, only_zeros, no_zero_left}
use Rattle.indicatif_text.proofs.laws.decimals.Goals as goal

pub returns-clause-rest : goal.returns-clause-rest
returns-clause-rest c = λ k n. (length-last_digits k n, digits_value-last k n)

pub returns-clause-only_zeros : goal.returns-clause-only_zeros
returns-clause-only_zeros c = λ ds. only_zeros ds

pub returns-clause-all_zeros : goal.returns-clause-all_zeros
returns-clause-all_zeros c = λ ds es e. no_zero_left ds es e

pub returns-clause-spell : goal.returns-clause-spell
returns-clause-spell c = λ k n small. digits_spell k n small
