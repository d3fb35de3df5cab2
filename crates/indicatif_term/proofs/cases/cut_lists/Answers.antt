-- Each case computes.
use Rattle.std.proofs.Common.{refl}
use Rattle.unicode_width.specs.Width.{char_width}
use Rattle.indicatif_text.specs.Columns.{rows_of, visible}
use Rattle.indicatif_term.specs.Lists.{drawn, logged, cleared, kept_of, shown_rows, lines_of, fitting, grouped}
use Rattle.indicatif_term.specs.Resizes.{recut, resized_lists}
use Rattle.indicatif_term.proofs.cases.cut_lists.Goals as goal

pub returns-clause-not_joined : goal.returns-clause-not_joined
unfolding char_width rows_of visible drawn logged cleared kept_of shown_rows lines_of fitting grouped recut resized_lists
returns-clause-not_joined c = (refl, refl, refl)

pub returns-clause-live_rows_scroll_away : goal.returns-clause-live_rows_scroll_away
unfolding char_width rows_of visible drawn logged cleared kept_of shown_rows lines_of fitting grouped recut resized_lists
returns-clause-live_rows_scroll_away c = (refl, refl, refl)

pub returns-clause-log_is_cut : goal.returns-clause-log_is_cut
unfolding char_width rows_of visible drawn logged cleared kept_of shown_rows lines_of fitting grouped recut resized_lists
returns-clause-log_is_cut c = (refl, refl)

pub returns-clause-rows_below_dropped : goal.returns-clause-rows_below_dropped
unfolding char_width rows_of visible drawn logged cleared kept_of shown_rows lines_of fitting grouped recut resized_lists
returns-clause-rows_below_dropped c = (refl, refl, refl)

pub returns-clause-reached_below : goal.returns-clause-reached_below
unfolding char_width rows_of visible drawn logged cleared kept_of shown_rows lines_of fitting grouped recut resized_lists
returns-clause-reached_below c = (refl, refl, refl, refl)

pub returns-clause-kept_rows_scroll_away : goal.returns-clause-kept_rows_scroll_away
unfolding char_width rows_of visible drawn logged cleared kept_of shown_rows lines_of fitting grouped recut resized_lists
returns-clause-kept_rows_scroll_away c = (refl, refl, refl, refl)
