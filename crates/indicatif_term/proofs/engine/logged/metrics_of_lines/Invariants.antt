use Rattle.std.proofs.Common.{◌≡◌, ◌-◌, ◌^◌, false, map, min}
use Rattle.indicatif_term.specs.Lines.{some_wide, text_lines}
use Rattle.indicatif_term.specs.Inside.Plans.{text_height}
use Rattle.indicatif_term.specs.Inside.Fills.{line_end, last_or_none}
use Rattle.indicatif_term.proofs.engine.logged.metrics_of_lines.Given as goal

abbrev pub invariant-loop-line : goal.invariant-loop-line
invariant-loop-line l = record {
  narrow : some_wide l.window.columns (text_lines (map (λ line. line.now) l.yielded)) ≡ false;
  rows_are : l.all.height ≡ min (text_height l.window.columns (text_lines (map (λ line. line.now) l.yielded))) (2 ^ 64 - 1);
  ends : l.all.last_line_width ≡ line_end l.window.columns (last_or_none (map (λ line. line.now) l.yielded));
}
