use Rattle.std.proofs.Common.{◌≡◌, arith, subst}
use Rattle.indicatif.specs.Wrap.{CountsItem}
use Rattle.uses.proofs.MoveLemmas.{WentOn, went_nowhere, went_on}
use Rattle.uses.proofs.loops.skip.Goals as goal

pub loop-init : goal.loop-init
loop-init g c = went_nowhere (g.P.Moves.stands c.args.list.now.progress)

pub loop-preserved : goal.loop-preserved
loop-preserved g c =
    let told = g.P.Moves.stands in
    let counts = subst (λ there. CountsItem told g.P.Moves.leads there c.loop.list c.next.new.self) c.if-is_none.ensures c.next.ensures.steps.1 in
    went_on (told c.args.list.now.progress) (told c.loop.list.progress) (told c.next.new.self.progress) c.loop.counter counts.0.answer c.loop.invariant counts.0.goes

pub returns : goal.returns
returns g c =
    let told = g.P.Moves.stands in
    let all : c.loop.counter ≡ c.args.count = omega (arith, c.loop-test.false, c.loop.auto.counter-end) in
    λ enough. subst (WentOn (told c.args.list.now.progress) (told c.loop.list.progress)) all c.loop.invariant
