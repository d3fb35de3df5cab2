use Rattle.std.proofs.Common.{◌≡◌, ◌+◌, drop, arith, sym, ap, ◌∙◌}
use Rattle.indicatif_term.specs.Counts.{line_counts}
use Rattle.indicatif_term.specs.Inside.Owned.{run_length}
use Rattle.indicatif_term.specs.declared.engine.remembered.StandingLine.{StandingLine}
use Rattle.indicatif_term.proofs.GroupLemmas.{run_next, run_stop, run_end}
use Rattle.indicatif_term.proofs.engine.layout.run_of.Goals as goal

pub returns-then-lines-at-clause-run : goal.returns-then-lines-at-clause-run
returns-then-lines-at-clause-run c =
    let ls = c.args.lines.now in
    let bar = c.args.bar in
    let i : run_length bar (line_counts ls) ≡ c.loop-at.at + run_length bar (line_counts (drop c.loop-at.at ls)) = c.loop-at.invariant in
    let x = c.index-lines-at.result in
    let none = run_stop bar c.loop-at.at ls x c.loop-at-test.true (sym c.index-lines-at.is) (λ e. c.if-lines-at.true (ap (λ (y : StandingLine). y.bar) (sym c.index-lines-at.is) ∙ e)) in
    omega (arith, i, none)

pub loop-at-preserved : goal.loop-at-preserved
loop-at-preserved c =
    let ls = c.args.lines.now in
    let bar = c.args.bar in
    let i : run_length bar (line_counts ls) ≡ c.loop-at.at + run_length bar (line_counts (drop c.loop-at.at ls)) = c.loop-at.invariant in
    let x = c.index-lines-at.result in
    let more = run_next bar c.loop-at.at ls x c.loop-at-test.true (sym c.index-lines-at.is) (ap (λ (y : StandingLine). y.bar) c.index-lines-at.is ∙ c.if-lines-at.false) in
    omega (arith, i, more)

pub returns-clause-run : goal.returns-clause-run
returns-clause-run c =
    let ls = c.args.lines.now in
    let bar = c.args.bar in
    let i : run_length bar (line_counts ls) ≡ c.loop-at.at + run_length bar (line_counts (drop c.loop-at.at ls)) = c.loop-at.invariant in
    omega (arith, i, run_end bar c.loop-at.at ls (omega arith))
