use Rattle.std.proofs.Common.{◌≡◌, ℕ, ◌<◌, ◌≤◌, [], get_or, length}
use Rattle.indicatif_term.specs.Counts.{line_counts}
use Rattle.indicatif_term.specs.Standing.{texts, AreLines}
use Rattle.indicatif_term.specs.Inside.Renewed.{AreFitting, AreInPlace, AreOver, renewed}
use Rattle.indicatif_term.proofs.engine.beside.put_new.Given as goal

abbrev pub invariant-loop-line : goal.invariant-loop-line
invariant-loop-line l = record {
  texts_are : renewed (texts l.lines) l.changed.items ≡ renewed (texts l.fn.lines) l.fn.changed.items;
  counts_same : line_counts l.lines ≡ line_counts l.fn.lines;
  count : length l.lines ≡ length l.fn.lines;
  in_place : (w : ℕ) → AreLines w l.fn.lines → AreFitting w l.fn.lines (length l.fn.lines) l.fn.changed.items → AreInPlace w l.fn.lines l.lines;
  pending : (w : ℕ) → AreFitting w l.fn.lines (length l.fn.lines) l.fn.changed.items →
      (bound : ℕ) × (bound ≤ length l.fn.lines) × AreFitting w l.fn.lines bound l.changed.items
      × ((i : ℕ) → i < bound → get_or (texts l.lines) i [] ≡ get_or (texts l.fn.lines) i []);
  over : (w : ℕ) → AreFitting w l.fn.lines (length l.fn.lines) l.fn.changed.items → AreOver w l.fn.lines l.lines;
}

abbrev pub decreases-loop-line : goal.decreases-loop-line
decreases-loop-line l = length l.changed.items
