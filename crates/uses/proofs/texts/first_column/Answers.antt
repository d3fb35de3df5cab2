use Rattle.std.proofs.Common.{refl}
use Rattle.std.specs.Str.{chars}
use Rattle.unicode_width.specs.Width.{char_width}
use Rattle.unicode_width.proofs.Computing.{unicode_width}
use Rattle.indicatif_text.specs.Pieces.{pieces_of_text}
use Rattle.indicatif_text.specs.Range.{ansi_range}
use Rattle.uses.proofs.texts.first_column.Goals as goal

pub returns : goal.returns
unfolding chars char_width unicode_width pieces_of_text ansi_range
returns c = c.write_ansi_range.ensures.range
