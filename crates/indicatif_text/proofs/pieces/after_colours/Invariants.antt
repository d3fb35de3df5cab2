use Rattle.std.proofs.Common.{◌≡◌, ◌≤◌, length, chars}
use Rattle.std.specs.Prelude.{unwrap_or}
use denote.Text.{Utf8}
use denote.Shadow.{shadow}
use Rattle.std.specs.Str.{IsAscii, IsCharBoundary}
use Rattle.indicatif_text.specs.Columns.{colour_length, visible}
use Rattle.std.specs.Prelude.{take}
use Rattle.indicatif_text.proofs.pieces.after_colours.Given as goal

abbrev pub invariant-loop-len : goal.invariant-loop-len
invariant-loop-len l = record {
  utf8 : shadow (Utf8 l.rest);
  len_is : l.len ≡ unwrap_or (colour_length (chars l.rest)) 0;
  fits : l.len ≤ length l.rest;
  ascii : IsAscii (take l.len l.rest);
  boundary : IsCharBoundary l.rest l.len;
  same : visible (chars l.rest) ≡ visible (chars l.text);
}

abbrev pub decreases-loop-len : goal.decreases-loop-len
decreases-loop-len l = length l.rest
