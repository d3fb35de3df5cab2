use Rattle.std.proofs.Common.{◌≡◌, ◌++◌, take}
use Rattle.indicatif_term.specs.Standing.{texts}
use Rattle.indicatif_term.specs.Inside.Recutting.{HasMore, cut_lines, cut_bars, line_bars}
use Rattle.indicatif_term.proofs.engine.recutting.CutLines.add_lines.Given as goal

abbrev pub invariant-loop-line : goal.invariant-loop-line
invariant-loop-line l = record {
  added : HasMore l.fn.self l.self (cut_lines l.widths.from l.widths.to (texts (take l.line-index l.lines)));
  owned : line_bars l.self.lines.items ≡ line_bars l.fn.self.lines.items ++ cut_bars l.widths.from l.widths.to (take l.line-index l.lines);
}
