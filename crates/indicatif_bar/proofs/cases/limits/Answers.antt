use Rattle.std.proofs.Common.{refl}
use Rattle.std.specs.Str.{chars}
use Rattle.std.proofs.Math.Utf8.{encode}
use Rattle.unicode_width.specs.Width.{char_width}
use Rattle.unicode_width.proofs.Computing.{unicode_width}
use Rattle.indicatif_text.specs.Columns.{rows_of, visible, has_wide}
use Rattle.indicatif_term.specs.Lists.{drawn, shown_rows, lines_of, fitting, grouped}
use Rattle.indicatif_bar.specs.Styles.{lines}
use Rattle.indicatif_bar.specs.Machines.{drawn_by}
use Rattle.indicatif_bar.proofs.cases.limits.Goals as goal

pub returns : goal.returns
unfolding char_width unicode_width rows_of visible has_wide drawn shown_rows lines_of fitting grouped chars lines encode drawn_by
returns c = record { limited_draws = (refl, refl) }
