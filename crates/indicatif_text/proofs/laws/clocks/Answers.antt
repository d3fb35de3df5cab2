use Rattle.indicatif_text.proofs.FormatLawLemmas.{tells_seconds}
use Rattle.indicatif_text.proofs.laws.clocks.Goals as goal

pub returns : goal.returns
returns c = λ n small. tells_seconds n small
