use Rattle.std.specs.Fn.{FnReturnsAt}
use Rattle.std.proofs.lemmas.List.Elements.{All-push, All-same}
use Rattle.indicatif.specs.Inside.PartAnswers.{AnswersPart}
use Rattle.indicatif.proofs.parallel.answers.pieces_in_order.Goals as goal

pub loop-preserved : goal.loop-preserved
loop-preserved g c =
    let Q = AnswersPart (FnReturnsAt g.F.Fn c.args.f.now) c.args.items.now in
    let is = rw c.in_ok-at.was at c.at.ensures in
    let more = rw c.in_ok-push.was at c.push.ensures.items in (
      All-same Q _ _ more (All-push Q _ _ c.loop.invariant.0 is),
      (λ start before. c.follow_part.ensures.goes start (c.loop.invariant.1 start before)),
      c.follow_part.ensures.within c.loop.invariant.2,
    )
