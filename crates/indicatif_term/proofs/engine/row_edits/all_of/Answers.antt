use Rattle.std.proofs.Common.{refl}
use Rattle.indicatif_term.proofs.engine.row_edits.all_of.Goals as goal

pub returns-clause-bytes : goal.returns-clause-bytes
returns-clause-bytes c = rw (c.range_from.ensures.value, c.range_from-2.ensures.value, c.deref.ensures, c.deref-2.ensures) refl
