use Rattle.std.proofs.Common.{◌≡◌, ◌++◌, chars, encode_utf8_all, string_bytes}
use Rattle.std.specs.Prelude.{flat_map}
use Rattle.std.specs.Str.{IsUtf8}
use Rattle.std.specs.Str.Iter.{chars_rest}
use Rattle.indicatif_term.specs.Cells.{quoted_char}
use Rattle.indicatif_term.proofs.cells.call_log.quote.Given as goal

abbrev pub invariant-loop-c : goal.invariant-loop-c
invariant-loop-c l = record {
  utf8 : IsUtf8 (chars_rest l.rest);
  quoted : string_bytes l.out ++ encode_utf8_all (flat_map quoted_char (chars (chars_rest l.rest))) ≡ string_bytes l.fn.out ++ encode_utf8_all (flat_map quoted_char (chars l.text));
}
