use Rattle.std.proofs.Common.{◌≡◌, ◌++◌, map, length}
use Rattle.std.specs.Prelude.{IsTrue}
use Rattle.std.specs.List.{list_all, slice_split}
use Rattle.std.specs.Str.{IsUtf8}
use Rattle.indicatif_term.specs.Lines.{line_text}
use Rattle.indicatif_bar.specs.Bars.{is_bar_line}
use Rattle.indicatif_bar.specs.Styles.{is_newline}
use Rattle.indicatif_bar.proofs.style.filling.push_pieces.Given as goal

abbrev pub invariant-loop-piece : goal.invariant-loop-piece
invariant-loop-piece l = record {
  texts : map line_text l.lines.items ++ slice_split is_newline l.rest ≡ map line_text l.initial.lines.items ++ slice_split is_newline l.text;
  utf8 : IsUtf8 l.rest;
  kind : IsTrue (list_all is_bar_line l.initial.lines.items) → IsTrue (list_all is_bar_line l.lines.items);
}

abbrev pub decreases-loop-piece : goal.decreases-loop-piece
decreases-loop-piece l = length l.rest
