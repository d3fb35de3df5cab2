use Rattle.std.proofs.Common.{◌≡◌, ◌<◌, ◌≤◌, ◌-◌, ◌++◌, true, List, length, drop}
use Rattle.std.specs.List.{list_all}
use Rattle.indicatif_text.specs.Columns.{Glyph, glyphs_of}
use Rattle.indicatif_term.specs.Resizes.{has_place}
use Rattle.indicatif_term.specs.Inside.Recutting.{HasMore, Gains, cut_pieces}
use Rattle.indicatif_term.proofs.CutLineLemmas.{rows_left}
use Rattle.indicatif_term.proofs.engine.recutting.CutLines.add_rows.Given as goal

abbrev pub invariant-loop-at : goal.invariant-loop-at
invariant-loop-at l = record {
  within : l.at ≤ length l.seen;
  more : l.at < length l.seen → 0 < length (glyphs_of (drop l.at l.seen));
  placed : list_all (has_place l.widths.from) (glyphs_of (drop l.at l.seen)) ≡ true;
  done : List (List (List Glyph));
  added : HasMore l.fn.self l.self done;
  owned : Gains l.bar l.fn.self.lines.items l.self.lines.items;
  all : done ++ rows_left l.widths.from l.widths.to (glyphs_of (drop l.at l.seen)) ≡ cut_pieces l.widths.from l.widths.to (glyphs_of l.seen);
}

abbrev pub decreases-loop-at : goal.decreases-loop-at
decreases-loop-at l = length l.seen - l.at
