use Rattle.std.proofs.Common.{◌++◌, subst, ap, ◌∙◌, arith}
use Rattle.std.proofs.lemmas.List.{append_assoc, length-append}
use Rattle.std.proofs.lemmas.Result.{IfOk-weaker}
use Rattle.indicatif_board.specs.Done.{IsDivided}
use Rattle.indicatif_board.proofs.DividedLemmas.{IsDivided-halves}
use Rattle.indicatif_board.proofs.done.+divide.Goals as goal

pub returns-clause-divided : goal.returns-clause-divided
returns-clause-divided t c =
    let kept = c.in_ok-divide.ensures.divided in
    let first = subst (λ w. IsDivided w kept.0) c.in_ok-first.ensures.first kept.3 in
    IfOk-weaker c.divide-2.result _ _
    (λ u given.
    let second = subst (λ w. IsDivided w given.0) c.in_ok-first.ensures.second given.3 in (
      kept.0 ++ given.0,
      given.1 ∙ ap (λ l. l ++ given.0) kept.1 ∙ append_assoc c.args.workers.now.items kept.0 given.0,
      omega (arith, length-append kept.0 given.0, kept.2, given.2),
      IsDivided-halves c.args.worker kept.0 given.0 first second,
    ))
    c.divide-2.ensures.divided
