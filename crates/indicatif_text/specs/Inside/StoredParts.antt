-- The parts of a template as they are stored: their texts are one list of bytes, and each part has the place of its own.
use Rattle.std.specs.Prelude.{◌≤◌, ℕ, List, slice_range, All, IsCharBoundary}
use Rattle.std.specs.Str.{chars}
use Rattle.indicatif_text.specs.declared.template.stored_parts.PartKind.{PartKind}
use Rattle.indicatif_text.specs.declared.template.stored_parts.PartKind.TheVariants.{Literal, NewLine, Key, Placeholder}
use Rattle.indicatif_text.specs.declared.template.stored_parts.StoredPart.{StoredPart}
use Rattle.indicatif_text.specs.Template.{TemplatePart, LiteralText, LineBreak, KeyText, plain_layout}
use Rattle.indicatif_text.specs.Inside.Reading.{layout_of}

-- a part with this kind and text
abbrev pub part_with : PartKind → List ℕ → TemplatePart
part_with Literal text = LiteralText text
part_with NewLine text = LineBreak
part_with Key text = KeyText text plain_layout
part_with (Placeholder options) text = KeyText text (layout_of options)

-- a stored part, by the bytes of all texts
abbrev pub part_at : List ℕ → StoredPart → TemplatePart
part_at texts part = part_with part.kind (chars (slice_range texts part.start part.end))

-- the text of a stored part lies within all texts
abbrev pub LiesIn : List ℕ → StoredPart → Type 0
LiesIn texts part = (part.start ≤ part.end) × IsCharBoundary texts part.start × IsCharBoundary texts part.end

-- the texts of all these parts do
abbrev pub LieIn : List ℕ → List StoredPart → Type 0
LieIn texts parts = All (LiesIn texts) parts
