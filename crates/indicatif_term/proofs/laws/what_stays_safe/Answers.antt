use Rattle.indicatif_term.proofs.SafeRowLemmas.{taken_then, placed_then}
use Rattle.indicatif_term.proofs.laws.what_stays_safe.Goals as goal

pub returns : goal.returns
returns c = record { cut = taken_then; placed = placed_then }
