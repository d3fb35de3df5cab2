use Rattle.std.proofs.lemmas.Result.{IfOk-weaker}
use Rattle.indicatif.proofs.machine.own_target.Goals as goal

pub returns-clause-target : goal.returns-clause-target
returns-clause-target g c =
    let behind = c.in_ok-behind.ensures.term in
    IfOk-weaker c.term.result _ _ (λ t e. (behind.0, c.now.result, rw (c.rows_on.ensures, behind.1) at e)) c.term.ensures.target
