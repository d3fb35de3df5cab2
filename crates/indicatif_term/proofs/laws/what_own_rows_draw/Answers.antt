use Rattle.indicatif_term.proofs.EndedRunLemmas.{none_rows, then_rows, broken_rows, rows_stand}
use Rattle.indicatif_term.proofs.laws.what_own_rows_draw.Goals as goal

pub returns : goal.returns
returns g c = record {
  none = λ view own. none_rows view own.rows;
  next = λ view calls more old mid new r p q. then_rows view calls more r old.rows mid.rows new.rows p q;
  broken = λ view calls more old new e p. broken_rows view calls more e old.rows new.rows p;
  new = λ view calls term new r p. rows_stand view calls term new.rows r p;
}
