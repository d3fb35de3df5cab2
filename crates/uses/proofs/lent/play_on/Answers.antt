use Rattle.std.proofs.Common.{◌∙◌, sym, inl, inr}
use Rattle.uses.proofs.lent.play_on.Goals as goal

pub returns-clause-kept : goal.returns-clause-kept
returns-clause-kept g c = λ number bar apart there. elim (c.in_ok-answers.ensures.records number apart) [
  | inl same ↦ same ∙ there
  | inr came ↦ absurd (cc (sym there ∙ came.0))
]
