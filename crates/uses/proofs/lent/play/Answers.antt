use Rattle.std.proofs.Common.{ap, ◌∙◌, option_map}
use Rattle.indicatif_bar.specs.Machines.{target_of}
use Rattle.uses.proofs.lent.play.Goals as goal

pub returns-clause-hidden : goal.returns-clause-hidden
returns-clause-hidden g c = λ none.
    let nowhere = ap (λ o. (target_of (option_map g.T.TermLike.view o)).columns) none in
    c.in_ok-answers.ensures.silent (c.in_ok-answers.ensures.nowhere nowhere) ∙ none
