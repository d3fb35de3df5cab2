use Rattle.indicatif_term.proofs.QuietLemmas.{calm_quiet}
use Rattle.indicatif_term.proofs.laws.what_calm_bytes_hold.Goals as goal

pub returns : goal.returns
returns c = calm_quiet
