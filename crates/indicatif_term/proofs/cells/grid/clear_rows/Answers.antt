use Rattle.std.proofs.Common.{◌<◌, length, arith}
use Rattle.indicatif_term.proofs.WholeScreenLemmas.{emptied_more}
use Rattle.indicatif_term.proofs.cells.grid.clear_rows.Goals as goal

pub loop-row-preserved : goal.loop-row-preserved
loop-row-preserved c =
    let i = c.loop-row.row-index in
    let within : i < length c.loop-row.rows = omega (arith, c.loop-row-test.true, c.loop-row.auto.rows) in
    let is = c.loop-row.invariant in
    let more = emptied_more c.args.columns i c.loop-row.rows c.row-item.result c.empty.new.self within c.row-item.is is.full c.empty.ensures is.done in
    record { done = more.0; full = more.1 }
