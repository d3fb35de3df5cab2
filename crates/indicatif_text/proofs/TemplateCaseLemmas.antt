-- The worked cases of the grammar, read piece by piece.
use Rattle.std.proofs.Common.{refl}
use Rattle.indicatif_text.specs.Template.{front, end, piece, here, parts_of, with_alternative, with_style, with_width, with_options}
use Rattle.indicatif_text.specs.StyleWords.{style_of}
use Rattle.indicatif_text.specs.TemplateCases.{Templates}
use Rattle.indicatif_text.proofs.TemplateLemmas.{parses_by}

pub templates : Templates
unfolding front parts_of style_of with_alternative with_style with_width with_options
templates = (
  parses_by (piece refl (piece refl (piece refl end))) refl,
  parses_by (piece refl (piece refl (piece refl end))) refl,
  parses_by (piece refl end) refl,
  parses_by (piece refl end) refl,
  here refl,
  here refl,
  here refl,
  parses_by (piece refl end) refl,
  parses_by (piece refl (piece refl (piece refl end))) refl,
  parses_by (piece refl (piece refl (piece refl (piece refl (piece refl end))))) refl,
  parses_by (piece refl (piece refl (piece refl (piece refl (piece refl end))))) refl,
  parses_by (piece refl (piece refl (piece refl end))) refl,
  parses_by (piece refl (piece refl (piece refl (piece refl end)))) refl,
  parses_by (piece refl end) refl,
  here refl,
  parses_by (piece refl end) refl,
  parses_by (piece refl end) refl,
  here refl,
  here refl,
  here refl,
  here refl,
  here refl,
  here refl,
  here refl,
  here refl,
  parses_by (piece refl end) refl,
  parses_by (piece refl end) refl,
  parses_by (piece refl end) refl,
  parses_by (piece refl end) refl,
  parses_by (piece refl end) refl,
  parses_by (piece refl end) refl,
  parses_by (piece refl (piece refl (piece refl (piece refl (piece refl (piece refl end)))))) refl,
)
