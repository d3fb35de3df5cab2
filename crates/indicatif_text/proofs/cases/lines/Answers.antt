use Rattle.std.proofs.Common.{refl}
use Rattle.unicode_width.specs.Width.{char_width}
use Rattle.unicode_width.proofs.Computing.{unicode_width}
use Rattle.indicatif_text.specs.Columns.{visible, rows_of, last_columns, has_wide}
use Rattle.indicatif_text.specs.Pieces.{pieces_of_text}
use Rattle.indicatif_text.proofs.cases.lines.Goals as goal

pub returns : goal.returns
unfolding char_width unicode_width visible rows_of last_columns has_wide pieces_of_text
returns c = record {
  wide = (refl, refl, refl, refl);
  empty = (refl, refl);
  whole_rows = (refl, refl, refl);
  wide_rows = (refl, refl);
  joined_rows = (refl, refl, refl);
  colours =
      (refl, refl, refl, refl);
  pieces = refl;
}
