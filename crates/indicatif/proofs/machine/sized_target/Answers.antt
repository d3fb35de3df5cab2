use Rattle.std.proofs.Common.{refl}
use Rattle.std.proofs.lemmas.Result.{IfOk-weaker}
use Rattle.indicatif.proofs.machine.sized_target.Goals as goal

pub returns-clause-target : goal.returns-clause-target
returns-clause-target g c =
    let facts = record c.in_ok-facts_of.field-0 { rows = c.args.rows; cols = c.args.cols } in
    let behind = c.in_ok-behind.ensures.term in
    IfOk-weaker c.term.result _ _ (λ t e. (facts, refl, refl, (behind.0, c.now.result, rw (c.left_to_terminal.ensures, behind.1) at e))) c.term.ensures.target
