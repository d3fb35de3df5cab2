use Rattle.std.proofs.Common.{◌≡◌, ◌≤◌, [], length, chars, if◌then◌else◌}
use denote.Text.{Utf8}
use denote.Shadow.{shadow}
use Rattle.std.specs.Prelude.{take, unwrap_or}
use Rattle.std.specs.Str.{IsAscii, IsCharBoundary}
use Rattle.indicatif_text.specs.Columns.{colour_length}
use Rattle.indicatif_term.specs.Inside.Inks.{read}
use Rattle.indicatif_term.specs.Inside.Rests.{ink_of}
use Rattle.indicatif_term.proofs.InkLemmas.{IsBegun}
use Rattle.indicatif_term.proofs.engine.inks.pass_colours.Given as goal

abbrev pub invariant-sequences : goal.invariant-sequences
invariant-sequences l = record {
  begun_utf8 : shadow (Utf8 l.begun);
  rest_utf8 : shadow (Utf8 l.rest);
  len_is : l.len ≡ unwrap_or (colour_length (chars l.rest)) 0;
  fits : l.len ≤ length l.rest;
  ascii : IsAscii (take l.len l.rest);
  boundary : IsCharBoundary l.rest l.len;
  since : IsBegun (read (ink_of l.fn.reading.ink) (chars l.fn.reading.text.now)) (if l.closed then [] else l.fn.reading.ink.group.now) l.begun l.rest;
}

abbrev pub decreases-sequences : goal.decreases-sequences
decreases-sequences l = length l.rest
