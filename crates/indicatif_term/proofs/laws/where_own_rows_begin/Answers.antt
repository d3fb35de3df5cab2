use Rattle.indicatif_term.proofs.EndedRunLemmas.{new_together, fresh_begin, written_together}
use Rattle.indicatif_term.proofs.laws.where_own_rows_begin.Goals as goal

pub returns : goal.returns
returns g c = record {
  begins = new_together;
  fresh = fresh_begin;
  unsynchronized = λ view own s m x. written_together view own.rows s m x;
}
