use Rattle.std.proofs.Common.{arith, sym}
use Rattle.indicatif_term.proofs.LaidLemmas.{own_at_front, own_at_more}
use Rattle.indicatif_term.proofs.engine.layout.own_line.Goals as goal

pub returns-then-at-laid : goal.returns-then-at-laid
returns-then-at-laid c = own_at_front c.args.standing.now c.args.laid.now c.args.place c.index-standing-at.result c.requires.in_lines (omega arith) (sym c.index-standing-at.is)

pub returns-else-at-laid : goal.returns-else-at-laid
returns-else-at-laid c = own_at_more c.args.standing.now c.args.laid.now c.args.place c.index.result.now c.requires.in_lines (omega arith) (sym c.index.ensures)
