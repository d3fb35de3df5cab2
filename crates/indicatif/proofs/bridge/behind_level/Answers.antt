use Rattle.std.proofs.Common.{◌++◌, ◌∙◌, ap, sym}
use Rattle.indicatif.proofs.bridge.behind_level.Goals as goal

pub returns-in-None : goal.returns-in-None
returns-in-None c = λ text e. absurd (c.in-None.ensures.cases text (e ∙ ap (λ h. h ++ text) (sym c.header_of.ensures)))
