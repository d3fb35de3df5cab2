use Rattle.std.proofs.Common.{refl}
use Rattle.std.specs.Str.{chars}
use Rattle.std.proofs.Math.Utf8.{encode}
use Rattle.unicode_width.specs.Width.{char_width}
use Rattle.unicode_width.proofs.Computing.{unicode_width}
use Rattle.indicatif_text.specs.Columns.{rows_of, visible, has_wide}
use Rattle.indicatif_term.specs.Lists.{drawn, logged, cleared, shown_rows, lines_of, fitting, grouped}
use Rattle.indicatif_bar.specs.Styles.{lines}
use Rattle.indicatif_bar.specs.Machines.{drawn_by}
use Rattle.indicatif_bar.proofs.cases.runs.Goals as goal

pub returns-clause-shorter_message : goal.returns-clause-shorter_message
unfolding char_width unicode_width rows_of visible has_wide drawn logged shown_rows lines_of fitting grouped chars lines encode drawn_by
returns-clause-shorter_message c = (refl, refl, refl, refl)

pub returns-clause-empty_message : goal.returns-clause-empty_message
unfolding char_width unicode_width rows_of visible has_wide drawn logged shown_rows lines_of fitting grouped chars lines encode drawn_by
returns-clause-empty_message c = (refl, refl, refl, refl)

pub returns-clause-wide_character : goal.returns-clause-wide_character
unfolding char_width unicode_width rows_of visible has_wide drawn logged shown_rows lines_of fitting grouped chars lines encode drawn_by
returns-clause-wide_character c = (refl, refl, refl, refl)

pub returns-clause-no_column : goal.returns-clause-no_column
unfolding char_width unicode_width rows_of visible has_wide drawn logged shown_rows lines_of fitting grouped chars lines encode drawn_by
returns-clause-no_column c = (refl, refl, refl, refl)

pub returns-clause-nowhere : goal.returns-clause-nowhere
unfolding char_width unicode_width rows_of visible has_wide drawn logged shown_rows lines_of fitting grouped chars lines encode drawn_by
returns-clause-nowhere c = (refl, refl, refl)

pub returns-clause-logs_above : goal.returns-clause-logs_above
unfolding char_width unicode_width rows_of visible has_wide drawn logged shown_rows lines_of fitting grouped chars lines encode drawn_by
returns-clause-logs_above c = (refl, refl, refl)

pub returns-clause-wide_log : goal.returns-clause-wide_log
unfolding char_width unicode_width rows_of visible has_wide drawn logged shown_rows lines_of fitting grouped chars lines encode drawn_by
returns-clause-wide_log c = (refl, refl)

pub returns-clause-cleared : goal.returns-clause-cleared
unfolding char_width unicode_width rows_of visible has_wide drawn logged cleared shown_rows lines_of fitting grouped chars lines encode drawn_by
returns-clause-cleared c = (refl, refl, refl, refl, refl)

pub returns-clause-late_elapsed : goal.returns-clause-late_elapsed
unfolding char_width unicode_width rows_of visible has_wide drawn logged cleared shown_rows lines_of fitting grouped chars lines encode drawn_by
returns-clause-late_elapsed c = (refl, refl, refl)
