use Rattle.std.proofs.Common.{◌∙◌, ap}
use Rattle.indicatif_text.specs.declared.template.stored_parts.PartKind.TheVariants.{Placeholder}
use Rattle.indicatif_text.specs.Template.{Keyed, keyed}
use Rattle.indicatif_text.specs.Inside.Draft.{parted_sketch}
use Rattle.indicatif_text.specs.Inside.Reading.{layout_of}
use Rattle.indicatif_text.proofs.template.draft.Draft.read_options.Goals as goal

pub returns : goal.returns
returns c = λ sketch key begun. (
  Keyed key (layout_of c.with_options.new.options),
  ap (keyed key) c.in_ok-left.ensures,
  c.in_ok-close.ensures ∙ ap (λ s. parted_sketch s (Placeholder c.with_options.new.options)) begun,
)
