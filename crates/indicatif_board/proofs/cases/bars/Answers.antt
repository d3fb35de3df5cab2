use Rattle.std.proofs.Common.{refl}
use Rattle.std.specs.Str.{chars}
use Rattle.std.proofs.Math.Utf8.{encode}
use Rattle.unicode_width.specs.Width.{char_width}
use Rattle.unicode_width.proofs.Computing.{unicode_width}
use Rattle.indicatif_text.specs.Columns.{rows_of, visible, has_wide}
use Rattle.indicatif_term.specs.Lists.{drawn, logged, cleared, fate, kept_of, shown_rows, lines_of, fitting, grouped}
use Rattle.indicatif_bar.specs.Styles.{lines}
use Rattle.indicatif_bar.specs.Machines.{drawn_by}
use Rattle.indicatif_board.proofs.cases.bars.Goals as goal

pub returns-clause-late_on_board : goal.returns-clause-late_on_board
unfolding char_width unicode_width rows_of visible has_wide drawn logged cleared fate kept_of shown_rows lines_of fitting grouped chars lines encode drawn_by
returns-clause-late_on_board c = (refl, refl)

pub returns-clause-one_is_left : goal.returns-clause-one_is_left
unfolding char_width unicode_width rows_of visible has_wide drawn logged cleared fate kept_of shown_rows lines_of fitting grouped chars lines encode drawn_by
returns-clause-one_is_left c = (refl, refl, refl)
