use Rattle.std.proofs.Common.{◌≡◌, Ok, Err, true, false, arith}
use Rattle.meter_parts.proofs.PassingLemmas.{passed_last, passed_more, passed_or}
use Rattle.meter_parts.proofs.passing.pass_on.Goals as goal

pub returns-in-Ok-true-clause-passed : goal.returns-in-Ok-true-clause-passed
returns-in-Ok-true-clause-passed g c =
    let is : c.pass_some.result ≡ Ok true = cc (c.in-Ok-true.is, c.in-Ok-true.field-0-test) in
    passed_last _ _ _ _ _ _ c.loop.invariant.0 c.pass_some.result c.pass_some.ensures.passed is

pub returns-in-Err-clause-passed : goal.returns-in-Err-clause-passed
returns-in-Err-clause-passed g c =
    let is : c.pass_some.result ≡ Err c.in-Err.broken = cc (c.in-Err.is) in
    passed_or _ _ _ _ _ _ c.loop.invariant.0 c.in-Err.broken c.pass_some.result c.pass_some.ensures.passed is

pub loop-preserved : goal.loop-preserved
loop-preserved g c =
    let is : c.pass_some.result ≡ Ok false = cc (c.in-Ok-false.is, c.in-Ok-false.field-0-test) in (
      passed_more _ _ _ _ _ _ c.loop.invariant.0 c.pass_some.result c.pass_some.ensures.passed is,
      omega (arith, c.pass_some.ensures.buffer, c.loop.invariant.1),
    )
