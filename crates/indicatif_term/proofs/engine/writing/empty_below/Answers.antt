use Rattle.std.proofs.Common.{arith, ◌≡◌, []}
use Rattle.indicatif_term.proofs.CallTurnLemmas.{reaches_none, down_reaches, down_fails}
use Rattle.indicatif_term.proofs.engine.writing.empty_below.Goals as goal

pub loop-init : goal.loop-init
loop-init g c = reaches_none _

pub returns-in_err-empty_next : goal.returns-in_err-empty_next
returns-in_err-empty_next g c = down_fails [] c.loop.counter c.args.rows _ _ c.from_residual.result (omega arith) c.from_residual.ensures.1
    c.loop.invariant c.in_err-empty_next.ensures

pub loop-preserved : goal.loop-preserved
loop-preserved g c = down_reaches [] c.loop.counter c.loop.invariant c.in_ok-empty_next.ensures

pub returns : goal.returns
returns g c =
    let e : c.loop.counter ≡ c.args.rows = omega arith in
    rw e at c.loop.invariant
