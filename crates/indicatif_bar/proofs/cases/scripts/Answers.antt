use Rattle.std.proofs.Common.{refl}
use Rattle.std.specs.Str.{chars}
use Rattle.std.proofs.Math.Utf8.{encode}
use Rattle.unicode_width.specs.Width.{char_width}
use Rattle.unicode_width.proofs.Computing.{unicode_width}
use Rattle.indicatif_text.specs.Columns.{rows_of, visible, has_wide}
use Rattle.indicatif_term.specs.Lists.{drawn, logged, shown_rows, lines_of, fitting, grouped}
use Rattle.indicatif_term.specs.Resizes.{recut, resized_lists}
use Rattle.indicatif_bar.specs.Styles.{lines}
use Rattle.indicatif_bar.specs.Machines.{drawn_by}
use Rattle.indicatif_bar.proofs.cases.scripts.Goals as goal

pub returns-clause-dragged : goal.returns-clause-dragged
unfolding char_width unicode_width rows_of visible has_wide drawn logged shown_rows lines_of fitting grouped chars lines encode drawn_by resized_lists recut
returns-clause-dragged c = (refl, refl, refl, refl, refl)

pub returns-clause-scrolled_away : goal.returns-clause-scrolled_away
unfolding char_width unicode_width rows_of visible has_wide drawn logged shown_rows lines_of fitting grouped chars lines encode drawn_by resized_lists recut
returns-clause-scrolled_away c = (refl, refl, refl, refl)

pub returns-clause-logs_cut : goal.returns-clause-logs_cut
unfolding char_width unicode_width rows_of visible has_wide drawn logged shown_rows lines_of fitting grouped chars lines encode drawn_by resized_lists recut
returns-clause-logs_cut c = (refl, refl, refl)

pub returns-clause-hidden_size : goal.returns-clause-hidden_size
unfolding char_width unicode_width rows_of visible has_wide drawn logged shown_rows lines_of fitting grouped chars lines encode drawn_by resized_lists recut
returns-clause-hidden_size c = (refl, refl)

pub returns-clause-standing : goal.returns-clause-standing
unfolding char_width unicode_width rows_of visible has_wide drawn logged shown_rows lines_of fitting grouped chars lines encode drawn_by resized_lists recut
returns-clause-standing c = (refl, refl, refl, refl, refl, refl)
