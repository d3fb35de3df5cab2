use Rattle.indicatif_term.proofs.ModeLemmas.{on_after}
use Rattle.indicatif_term.proofs.laws.what_a_wrap_changes.Goals as goal

pub returns : goal.returns
returns c = record { on = on_after }
