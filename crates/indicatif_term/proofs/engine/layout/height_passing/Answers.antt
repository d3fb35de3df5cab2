use Rattle.std.proofs.Common.{◌≡◌, ◌+◌, ◌-◌, arith, length}
use Rattle.indicatif_term.specs.Inside.Layouts.{own_lines}
use Rattle.indicatif_term.proofs.RememberedLemmas.{height_push}
use Rattle.indicatif_term.proofs.LaidLemmas.{own_length}
use Rattle.indicatif_term.proofs.engine.layout.height_passing.Goals as goal

pub loop-at-preserved : goal.loop-at-preserved
loop-at-preserved c =
    let l = c.args.laid.now in
    let ls = own_lines c.args.standing.now l in
    let size : length ls ≡ l.at + length l.more.items - l.blanks = own_length c.args.standing.now l c.requires.in_lines in
    let push = height_push ls c.loop-at.at c.own_line.result.now (omega (arith, size, c.requires.within, c.loop-at-test.true)) c.own_line.ensures in
    omega (arith, c.loop-at.invariant, c.saturating_add-rows.ensures, push)
