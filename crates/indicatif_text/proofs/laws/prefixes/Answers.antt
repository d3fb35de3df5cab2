use Rattle.std.proofs.Common.{arith, inl, inr, ◌≤◌}
use Rattle.indicatif_text.specs.Format.{prefix_exponent}
use Rattle.indicatif_text.proofs.FormatLawLemmas.{greatest}
use Rattle.indicatif_text.proofs.laws.prefixes.Goals as goal

pub returns : goal.returns
returns c = λ base n some enough.
    let is = greatest base 6 n some enough in
    let low : prefix_exponent base 6 n ≤ 6 = elim is.1 [ inl one ↦ omega arith | inr h ↦ h ] in
    (is.0, low, is.2, is.3)
