use Rattle.std.proofs.Common.{◌≤◌, map, take, length}
use Rattle.indicatif_term.specs.Lines.{all_lines, bar_lines}
use Rattle.indicatif_board.proofs.in_window.bars_with_lines.Given as goal

abbrev pub invariant-loop-count : goal.invariant-loop-count
invariant-loop-count l = l.found ≤ length (all_lines (map bar_lines (take l.count l.frame)))
