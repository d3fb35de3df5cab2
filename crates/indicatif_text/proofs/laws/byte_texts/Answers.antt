use Rattle.indicatif_text.proofs.TextLawLemmas.{binary_tells, decimal_tells}
use Rattle.indicatif_text.proofs.laws.byte_texts.Goals as goal

pub returns-clause-binary : goal.returns-clause-binary
returns-clause-binary c = λ n small. binary_tells n small

pub returns-clause-decimal : goal.returns-clause-decimal
returns-clause-decimal c = λ n small. decimal_tells n small
