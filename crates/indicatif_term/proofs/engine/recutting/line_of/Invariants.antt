use Rattle.std.proofs.Common.{◌≡◌, ◌+◌, ◌++◌, filter, drop, chars, string_bytes}
use Rattle.indicatif_text.specs.Columns.{columns_in, glyphs_of}
use Rattle.indicatif_term.specs.Resizes.{has_place}
use Rattle.indicatif_term.specs.Inside.Recutting.{glyphs_text}
use Rattle.indicatif_term.proofs.CutCharLemmas.{kept_text}
use Rattle.indicatif_term.proofs.engine.recutting.line_of.Given as goal

abbrev pub invariant-loop-c : goal.invariant-loop-c
invariant-loop-c l = record {
  text_is : chars (string_bytes l.text) ++ kept_text l.width l.kept (drop l.c-index l.seen) ≡ glyphs_text (filter (has_place l.width) (glyphs_of l.seen));
  last_is : l.last + columns_in (filter (has_place l.width) (glyphs_of (drop l.c-index l.seen))) ≡ columns_in (filter (has_place l.width) (glyphs_of l.seen));
}
