use Rattle.std.proofs.Common.{◌≡◌, ◌≤◌, ◌+◌, length, chars}
use Rattle.std.specs.Prelude.{sum_by, string_bytes, string_capacity}
use Rattle.std.specs.Str.{IsUtf8}
use Rattle.std.specs.Str.Iter.{chars_rest}
use Rattle.indicatif_text.specs.Columns.{width_of}
use Rattle.indicatif_text.proofs.RangeLemmas.{left_within, LeavesText}
use Rattle.indicatif_text.proofs.range.push_run.Given as goal

abbrev pub invariant-characters : goal.invariant-characters
invariant-characters l = record {
  utf8 : IsUtf8 (chars_rest l.rest);
  sum_is : l.column + sum_by width_of (chars (chars_rest l.rest)) ≡ l.initial.column + sum_by width_of (chars l.run);
  room : string_capacity l.initial.out ≤ string_capacity l.out;
  out_is : LeavesText (string_bytes l.initial.out) (string_bytes l.out) (left_within l.shown l.fn.range.0 l.fn.range.1 l.column (chars (chars_rest l.rest)))
      (left_within l.shown l.fn.range.0 l.fn.range.1 l.initial.column (chars l.run));
}

abbrev pub decreases-characters : goal.decreases-characters
decreases-characters l = length (chars_rest l.rest)
