use Rattle.std.proofs.Common.{◌≡◌, ◌+◌, ◌-◌, ◌++◌, ℕ, List}
use Rattle.std.specs.Prelude.{string_bytes}
use Rattle.indicatif_term.specs.Calls.{LeadsOn, DOWN, move_bytes}
use Rattle.indicatif_term.specs.Inside.RowEdits.{row_bytes}
use Rattle.indicatif_term.specs.Inside.Parting.{part_edits}
use Rattle.indicatif_term.specs.Inside.Rests.{FitsRow, left_bytes}
use Rattle.indicatif_term.proofs.engine.row_edits.write_part.Given as goal

abbrev pub invariant-columns : goal.invariant-columns
invariant-columns g l = record {
  written : (done : List ℕ) × LeadsOn done (g.T.TermLike.view l.fn.term) (g.T.TermLike.view l.term)
      × (done ++ left_bytes l.part.waits l.now
      ≡ move_bytes DOWN (l.down + l.line.rows - 1) ++ row_bytes l.part.gap (part_edits l.part (string_bytes l.line.before) (string_bytes l.line.text)));
  room : FitsRow l.now;
}

abbrev pub decreases-columns : goal.decreases-columns
decreases-columns g l = l.now.left
