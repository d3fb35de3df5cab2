use Rattle.std.proofs.Common.{refl}
use Rattle.std.specs.Fmt.{digits}
use Rattle.indicatif_text.specs.Format.{round, fixed_point, bytes_text}
use Rattle.indicatif_text.proofs.cases.bytes.Goals as goal

pub returns-clause-binary : goal.returns-clause-binary
unfolding digits round fixed_point bytes_text
returns-clause-binary c = (refl, refl, refl, refl, refl)

pub returns-clause-decimal : goal.returns-clause-decimal
unfolding digits round fixed_point bytes_text
returns-clause-decimal c = (refl, refl, refl, refl, refl)
