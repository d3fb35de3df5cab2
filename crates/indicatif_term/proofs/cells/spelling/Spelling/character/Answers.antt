use Rattle.std.proofs.Common.{◌∙◌, sym, subst}
use Rattle.std.specs.Str.{IsUtf8}
use Rattle.indicatif_term.proofs.SpellingLemmas.{spelled, not_spelled}
use Rattle.indicatif_term.proofs.cells.spelling.Spelling.character.Goals as goal

pub returns-in-Ok : goal.returns-in-Ok
returns-in-Ok c =
    spelled c.next.result _ _ c.args.self.now _ (λ a. a.0) (c.chars.ensures.rest ∙ c.in-Ok.ensures.cases.0 ∙ c.self.view_is)
    (subst IsUtf8 c.self.view_is c.in-Ok.ensures.cases.1) c.requires c.next.ensures.steps.0

pub returns-in-Err : goal.returns-in-Err
returns-in-Err c = not_spelled c.args.self.now (λ u. c.in-Err.ensures.cases.0 (subst IsUtf8 (sym c.self.view_is) u))
