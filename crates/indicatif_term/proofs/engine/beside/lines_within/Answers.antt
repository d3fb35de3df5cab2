use Rattle.std.proofs.Common.{arith, refl, sym}
use Rattle.indicatif_term.proofs.RememberedLemmas.{one_more_passed, within_passed}
use Rattle.indicatif_term.proofs.engine.beside.lines_within.Goals as goal

pub loop-at-init : goal.loop-at-init
loop-at-init c = record { lines_are = refl; in_lines = omega arith; rows_are = omega arith }

pub returns-then-line-room : goal.returns-then-line-room
returns-then-line-room c = within_passed c.args.lines.now c.args.rows c.loop-at.at c.loop-at.room c.with_some-then-line-room.result c.loop-at.invariant c.with_some-then-line-room.ensures

pub loop-at-preserved : goal.loop-at-preserved
loop-at-preserved c = one_more_passed c.args.lines.now c.args.rows c.loop-at.at c.loop-at.room c.index-lines-at.result c.loop-at.invariant (omega arith) (sym c.index-lines-at.is) (omega arith)

pub returns : goal.returns
returns c = within_passed c.args.lines.now c.args.rows c.loop-at.at c.loop-at.room c.with_some-2.result c.loop-at.invariant c.with_some-2.ensures
