use Rattle.std.proofs.Common.{refl}
use Rattle.std.specs.Str.{chars}
use Rattle.unicode_width.specs.Width.{char_width}
use Rattle.unicode_width.proofs.Computing.{unicode_width}
use Rattle.indicatif_text.specs.Columns.{rows_of, visible, has_wide}
use Rattle.indicatif_term.specs.Lists.{drawn, logged, cleared, fate, kept_of, shown_rows, lines_of, fitting, grouped}
use Rattle.indicatif_bar.specs.Machines.{drawn_by}
use Rattle.indicatif_board.proofs.cases.answers.Goals as goal

pub returns-clause-ordered : goal.returns-clause-ordered
unfolding char_width unicode_width rows_of visible has_wide drawn logged cleared fate kept_of shown_rows lines_of fitting grouped chars drawn_by
returns-clause-ordered c = (refl, refl, refl, refl)

pub returns-clause-removed_twice : goal.returns-clause-removed_twice
unfolding char_width unicode_width rows_of visible has_wide drawn logged cleared fate kept_of shown_rows lines_of fitting grouped chars drawn_by
returns-clause-removed_twice c = refl

pub returns-clause-too_wide_for_all : goal.returns-clause-too_wide_for_all
unfolding char_width unicode_width rows_of visible has_wide drawn logged cleared fate kept_of shown_rows lines_of fitting grouped chars drawn_by
returns-clause-too_wide_for_all c = refl

pub returns-clause-twenty_at_once : goal.returns-clause-twenty_at_once
unfolding char_width unicode_width rows_of visible has_wide drawn logged cleared fate kept_of shown_rows lines_of fitting grouped chars drawn_by
returns-clause-twenty_at_once c = refl

pub returns-clause-unseen : goal.returns-clause-unseen
unfolding char_width unicode_width rows_of visible has_wide drawn logged cleared fate kept_of shown_rows lines_of fitting grouped chars drawn_by
returns-clause-unseen c = (refl, refl)
