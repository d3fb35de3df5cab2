use Rattle.std.proofs.Common.{◌≡◌, ◌<◌, ◌≤◌, ◌-◌, ◌++◌, length, drop, map}
use Rattle.indicatif_text.specs.Columns.{glyphs_of}
use Rattle.indicatif_term.specs.Inside.Recutting.{shown_lines, row_line, new_pieces, Gains}
use Rattle.indicatif_term.proofs.CutPieceLemmas.{more_pieces}
use Rattle.indicatif_term.proofs.engine.recutting.cut_row.Given as goal

abbrev pub invariant-loop-at : goal.invariant-loop-at
invariant-loop-at l = record {
  within : l.at ≤ length l.used;
  more : l.at < length l.used → 0 < length (glyphs_of (drop l.at l.used));
  left_is : shown_lines l.lines.items ++ map row_line (more_pieces l.width (glyphs_of (drop l.at l.used)))
      ≡ shown_lines l.fn.lines.items ++ map row_line (new_pieces l.width (glyphs_of l.fn.row));
  owned : Gains l.bar l.fn.lines.items l.lines.items;
}

abbrev pub decreases-loop-at : goal.decreases-loop-at
decreases-loop-at l = length l.used - l.at
