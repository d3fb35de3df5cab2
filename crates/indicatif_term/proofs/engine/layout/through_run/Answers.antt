use Rattle.std.proofs.Common.{◌≡◌, ◌+◌, ◌-◌, arith, length}
use Rattle.indicatif_term.proofs.GroupLemmas.{run_stop, run_end}
use Rattle.indicatif_term.specs.Inside.Layouts.{own_lines}
use Rattle.indicatif_term.proofs.LaidLemmas.{own_length, through_last}
use Rattle.indicatif_term.proofs.engine.layout.through_run.Goals as goal

pub returns-then-own_line-bar-clause-run : goal.returns-then-own_line-bar-clause-run
returns-then-own_line-bar-clause-run c =
    let l = c.args.laid.now in
    let ls = own_lines c.args.standing.now l in
    let size : length ls ≡ l.at + length l.more.items - l.blanks = own_length c.args.standing.now l c.requires.in_lines in
    let x = c.own_line.result.now in
    let stop = run_stop x.bar c.loop-at.at ls c.own_line-in-loop-at.result.now (omega (arith, size, c.requires.all, c.loop-at-test.true)) c.own_line-in-loop-at.ensures c.if-own_line-bar.true in
    omega (arith, c.loop-at.invariant.1, stop, through_last l.plan.passing ls x (omega (arith, c.if-count-eq0.false)) (omega (arith, size, c.requires.all, c.requires.within)) c.own_line.ensures)

pub returns-clause-run : goal.returns-clause-run
returns-clause-run c =
    let l = c.args.laid.now in
    let ls = own_lines c.args.standing.now l in
    let size : length ls ≡ l.at + length l.more.items - l.blanks = own_length c.args.standing.now l c.requires.in_lines in
    let x = c.own_line.result.now in
    let stop = run_end x.bar c.loop-at.at ls (omega (arith, size, c.requires.all, c.loop-at-test.false)) in
    let here : c.loop-at.at ≡ l.plan.lines = omega (arith, c.loop-at-test.false, c.loop-at.auto.at-end, c.loop-at.invariant.0, c.requires.within) in
    omega (arith, here, c.loop-at.invariant.1, stop, through_last l.plan.passing ls x (omega (arith, c.if-count-eq0.false)) (omega (arith, size, c.requires.all, c.requires.within)) c.own_line.ensures)
