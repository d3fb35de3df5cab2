use Rattle.std.proofs.Common.{◌≡◌, ◌+◌, ◌-◌, ◌≤◌, drop, length}
use Rattle.std.specs.List.{prefix_len}
use Rattle.indicatif_text.specs.Inside.Spans.{belongs}
use Rattle.indicatif_text.proofs.spans.span_len.Given as goal

abbrev pub invariant-bytes : goal.invariant-bytes
invariant-bytes l = record {
  fits : l.len ≤ length l.bytes;
  counted : prefix_len (belongs l.run) l.bytes ≡ l.len + prefix_len (belongs l.run) (drop l.len l.bytes);
}

abbrev pub decreases-bytes : goal.decreases-bytes
decreases-bytes l = length l.bytes - l.len
