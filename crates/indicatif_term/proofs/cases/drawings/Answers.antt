use Rattle.std.proofs.Common.{refl}
use Rattle.std.specs.Str.{chars, is_utf8}
use Rattle.std.proofs.Math.Utf8.{encode}
use Rattle.unicode_width.proofs.Computing.{unicode_width}
use Rattle.indicatif_term.specs.Terminal.{after}
use Rattle.unicode_width.specs.Width.{char_width}
use Rattle.indicatif_text.specs.Columns.{rows_of, visible}
use Rattle.indicatif_term.specs.Lists.{drawn, logged, cleared, kept_of, fate, shown_rows, lines_of, fitting, grouped}
use Rattle.indicatif_term.proofs.cases.drawings.Goals as goal

pub returns-clause-long_line : goal.returns-clause-long_line
unfolding char_width rows_of visible drawn logged cleared kept_of shown_rows lines_of fitting grouped
returns-clause-long_line c = (refl, refl)

pub returns-clause-three_on_two : goal.returns-clause-three_on_two
unfolding char_width rows_of visible drawn logged cleared kept_of shown_rows lines_of fitting grouped
returns-clause-three_on_two c = refl

pub returns-clause-log_above : goal.returns-clause-log_above
unfolding char_width rows_of visible drawn logged cleared kept_of shown_rows lines_of fitting grouped
returns-clause-log_above c = (refl, refl)

pub returns-clause-at_the_bottom : goal.returns-clause-at_the_bottom
unfolding char_width rows_of visible drawn logged cleared kept_of shown_rows lines_of fitting grouped
returns-clause-at_the_bottom c = (refl, refl, refl)

pub returns-clause-kept_scrolls_away : goal.returns-clause-kept_scrolls_away
unfolding char_width rows_of visible drawn logged cleared kept_of shown_rows lines_of fitting grouped
returns-clause-kept_scrolls_away c = (refl, refl, refl)

pub returns-clause-clear_leaves_above : goal.returns-clause-clear_leaves_above
unfolding char_width rows_of visible drawn logged cleared kept_of shown_rows lines_of fitting grouped
returns-clause-clear_leaves_above c = refl

pub returns-clause-fates_of_bars : goal.returns-clause-fates_of_bars
unfolding char_width rows_of visible drawn logged cleared kept_of shown_rows lines_of fitting grouped fate
returns-clause-fates_of_bars c = (refl, refl, refl, refl, refl, refl, refl, refl)

pub returns-clause-log_scrolls : goal.returns-clause-log_scrolls
unfolding char_width rows_of visible drawn logged cleared kept_of shown_rows lines_of fitting grouped after unicode_width is_utf8 chars encode
returns-clause-log_scrolls c = (refl, refl, refl, refl, refl, refl, refl)
