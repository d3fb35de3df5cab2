use Rattle.std.proofs.Common.{◌≡◌, ◌^◌, ◌≤◌, ◌⊎◌, inl, inr, refl, sym, arith}
use Rattle.indicatif_text.proofs.ByteTextLemmas.{exponent_found, past_power, power_one}
use Rattle.indicatif_text.proofs.format.bytes.prefix_power.Goals as goal

pub loop-exponent-init : goal.loop-exponent-init
loop-exponent-init c = record { size_is = power_one c.args.base; first = omega arith; last = omega arith; reached = inl refl }

pub returns-else-size-most-clause-exponent : goal.returns-else-size-most-clause-exponent
returns-else-size-most-clause-exponent c =
    let loop = c.loop-exponent in
    let reached : (loop.exponent ≡ 1) ⊎ (c.args.base ^ loop.exponent ≤ c.args.n) = rw (← loop.invariant.size_is) loop.invariant.reached in
    sym (exponent_found c.args.base loop.exponent 6 c.args.n (omega arith) loop.invariant.first loop.invariant.last reached
    (inr (past_power c.args.base c.args.n loop.size loop.exponent (omega arith) loop.invariant.size_is c.if-size-most.false)))
