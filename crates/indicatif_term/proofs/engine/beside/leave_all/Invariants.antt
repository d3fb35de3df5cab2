use Rattle.std.proofs.Common.{◌≡◌, ℕ, take}
use Rattle.std.specs.List.{AllByRecursion}
use Rattle.indicatif_term.specs.Counts.{line_counts}
use Rattle.indicatif_term.specs.Standing.{texts, AreLines}
use Rattle.indicatif_term.proofs.RenewedLemmas.{IsLeft}
use Rattle.indicatif_term.proofs.engine.beside.leave_all.Given as goal

abbrev pub invariant-loop-at : goal.invariant-loop-at
invariant-loop-at l = record {
  texts_same : texts l.lines ≡ texts l.fn.lines;
  counts_same : line_counts l.lines ≡ line_counts l.fn.lines;
  right : (w : ℕ) → AreLines w l.fn.lines → AreLines w l.lines;
  left : AllByRecursion IsLeft (take l.at l.lines);
}
