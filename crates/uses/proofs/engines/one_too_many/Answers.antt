use Rattle.std.proofs.Common.{◌≡◌, ◌∙◌, ap, sym, arith}
use Rattle.indicatif_term.specs.Limiters.{allow}
use Rattle.uses.proofs.EngineLemmas.{asked, asked_first, asked_once_more, asked_too_often}
use Rattle.uses.proofs.engines.one_too_many.Goals as goal

pub loop-init : goal.loop-init
loop-init c = c.in_ok-limiter.ensures.limiter ∙ sym asked_first

pub loop-preserved : goal.loop-preserved
loop-preserved c = c.allow-allowed.ensures.next ∙ ap (λ l. (allow l 0).1) c.loop.invariant ∙ asked_once_more c.loop.counter

pub returns : goal.returns
returns c =
    let all : c.loop.counter ≡ 20 = omega (arith, c.loop-test.false, c.loop.auto.counter-end) in
    c.allow.ensures.answer ∙ ap (λ l. (allow l 0).0) (c.loop.invariant ∙ ap asked all) ∙ asked_too_often
