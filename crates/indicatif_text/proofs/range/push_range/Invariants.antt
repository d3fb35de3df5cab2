use Rattle.std.proofs.Common.{◌≡◌, ◌≤◌, ◌+◌, length, chars}
use Rattle.std.specs.Prelude.{sum_by, flat_map, string_bytes, string_capacity}
use Rattle.indicatif_text.specs.Columns.{width_of, columns_of}
use Rattle.indicatif_text.specs.PieceLaws.{run_text}
use Rattle.indicatif_text.specs.Range.{ansi_range, pieces_within}
use Rattle.indicatif_text.proofs.RangeLemmas.{LeavesText}
use Rattle.indicatif_text.proofs.range.push_range.Given as goal

abbrev pub invariant-pieces : goal.invariant-pieces
invariant-pieces l = record {
  sum_is : l.column + sum_by width_of (flat_map run_text l.rest) ≡ columns_of (chars l.text);
  room : string_capacity l.initial.out ≤ string_capacity l.out;
  out_is : LeavesText (string_bytes l.initial.out) (string_bytes l.out) (pieces_within l.start l.end l.column l.rest) (ansi_range (chars l.text) l.start l.end);
}

abbrev pub decreases-pieces : goal.decreases-pieces
decreases-pieces l = length l.rest
