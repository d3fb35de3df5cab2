use Rattle.std.proofs.Common.{◌≡◌, inl, inr, Result, Ok, Err}
use Rattle.std.specs.Prelude.{◌≢◌, ◌⊎◌, codes}
use Rattle.std.specs.Str.{chars}
use Rattle.indicatif_text.specs.declared.refusal.TemplateState.TheVariants.{DoubleClose}
use Rattle.indicatif_text.specs.declared.template.TemplateError.{TemplateError}
use Rattle.indicatif_text.specs.declared.template.TemplateError.TheVariants.{Unexpected, WidthTooLarge, Memory}
use Rattle.uses.proofs.texts.single_brace.Goals as goal

-- memory is refused, or not
short_or_not : {X : Type 0} (r : Result X TemplateError) → (r ≡ Err Memory) ⊎ (r ≢ Err Memory)
short_or_not (Ok x) = inr (λ e. cc)
short_or_not (Err (Unexpected next state)) = inr (λ e. cc)
short_or_not (Err WidthTooLarge) = inr (λ e. cc)
short_or_not (Err Memory) = inl cc

pub returns : goal.returns
unfolding chars
returns c = elim (short_or_not c.parse.result) [
  | inl short ↦ inr short
  | inr ample ↦ inl ((c.parse.ensures.refused (Unexpected 120 DoubleClose) ample).1 (codes "x", c.templates.ensures.4))
]
