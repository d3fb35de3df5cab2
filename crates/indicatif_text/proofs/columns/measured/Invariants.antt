use Rattle.std.proofs.Common.{◌+◌, ◌≤◌, length, chars}
use Rattle.indicatif_text.proofs.WrappingLemmas.{MeasuredTo}
use Rattle.indicatif_text.proofs.columns.measured.Given as goal

abbrev pub invariant-rest : goal.invariant-rest
invariant-rest l = record {
  reads : MeasuredTo l.width l.height l.column (chars l.line) l.rest;
  fits : l.column ≤ l.width;
  small : l.height + length l.rest ≤ length l.line + 1;
}

abbrev pub decreases-rest : goal.decreases-rest
decreases-rest l = length l.rest
