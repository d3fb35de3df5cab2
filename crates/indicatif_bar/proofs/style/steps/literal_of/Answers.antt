use Rattle.std.proofs.Common.{◌∙◌, Some, sym, ap}
use Rattle.indicatif_text.specs.Template.{part_of}
use Rattle.indicatif_bar.specs.Inside.Steps.{literal_text}
use Rattle.indicatif_bar.proofs.style.steps.literal_of.Goals as goal

pub returns-in-Literal : goal.returns-in-Literal
unfolding part_of
returns-in-Literal c =
    c.spelt.ensures
    ∙ ap (λ part. literal_text (Some (part_of part))) (sym c.in-Literal.is)

pub returns-in-NewLine : goal.returns-in-NewLine
unfolding part_of
returns-in-NewLine c = ap (λ part. literal_text (Some (part_of part))) (sym c.in-NewLine.is)

pub returns-in-Placeholder : goal.returns-in-Placeholder
unfolding part_of
returns-in-Placeholder c = ap (λ part. literal_text (Some (part_of part))) (sym c.in-Placeholder.is)
