use Rattle.std.proofs.Common.{refl}
use Rattle.std.specs.Str.{chars}
use Rattle.unicode_width.specs.Width.{char_width}
use Rattle.unicode_width.proofs.Computing.{unicode_width}
use Rattle.indicatif_text.specs.Columns.{rows_of, visible, has_wide}
use Rattle.indicatif_term.specs.Lists.{drawn, logged, cleared, fate, kept_of, shown_rows, lines_of, fitting, grouped}
use Rattle.indicatif_bar.specs.Machines.{drawn_by}
use Rattle.indicatif_board.proofs.cases.rows.Goals as goal

pub returns-clause-two_bars : goal.returns-clause-two_bars
unfolding char_width unicode_width rows_of visible has_wide drawn logged cleared fate kept_of shown_rows lines_of fitting grouped chars drawn_by
returns-clause-two_bars c = (refl, refl)

pub returns-clause-three_on_two : goal.returns-clause-three_on_two
unfolding char_width unicode_width rows_of visible has_wide drawn logged cleared fate kept_of shown_rows lines_of fitting grouped chars drawn_by
returns-clause-three_on_two c = refl

pub returns-clause-left_above : goal.returns-clause-left_above
unfolding char_width unicode_width rows_of visible has_wide drawn logged cleared fate kept_of shown_rows lines_of fitting grouped chars drawn_by
returns-clause-left_above c = (refl, refl)

pub returns-clause-both_dropped : goal.returns-clause-both_dropped
unfolding char_width unicode_width rows_of visible has_wide drawn logged cleared fate kept_of shown_rows lines_of fitting grouped chars drawn_by
returns-clause-both_dropped c = refl

pub returns-clause-at_the_bottom : goal.returns-clause-at_the_bottom
unfolding char_width unicode_width rows_of visible has_wide drawn logged cleared fate kept_of shown_rows lines_of fitting grouped chars drawn_by
returns-clause-at_the_bottom c = (refl, refl)

pub returns-clause-empty_log : goal.returns-clause-empty_log
unfolding char_width unicode_width rows_of visible has_wide drawn logged cleared fate kept_of shown_rows lines_of fitting grouped chars drawn_by
returns-clause-empty_log c = refl

pub returns-clause-removed_later : goal.returns-clause-removed_later
unfolding char_width unicode_width rows_of visible has_wide drawn logged cleared fate kept_of shown_rows lines_of fitting grouped chars drawn_by
returns-clause-removed_later c = (refl, refl)

pub returns-clause-waits_behind : goal.returns-clause-waits_behind
unfolding char_width unicode_width rows_of visible has_wide drawn logged cleared fate kept_of shown_rows lines_of fitting grouped chars drawn_by
returns-clause-waits_behind c = refl

pub returns-clause-long_log : goal.returns-clause-long_log
unfolding char_width unicode_width rows_of visible has_wide drawn logged cleared fate kept_of shown_rows lines_of fitting grouped chars drawn_by
returns-clause-long_log c = (refl, refl)
