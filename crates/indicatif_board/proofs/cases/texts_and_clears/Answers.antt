use Rattle.std.proofs.Common.{refl}
use Rattle.std.specs.Str.{chars}
use Rattle.unicode_width.specs.Width.{char_width}
use Rattle.unicode_width.proofs.Computing.{unicode_width}
use Rattle.indicatif_text.specs.Columns.{rows_of, visible, has_wide}
use Rattle.indicatif_term.specs.Lists.{drawn, logged, cleared, fate, kept_of, shown_rows, lines_of, fitting, grouped}
use Rattle.indicatif_bar.specs.Machines.{drawn_by}
use Rattle.indicatif_board.proofs.cases.texts_and_clears.Goals as goal

pub returns-clause-own_text : goal.returns-clause-own_text
unfolding char_width unicode_width rows_of visible has_wide drawn logged cleared fate kept_of shown_rows lines_of fitting grouped chars drawn_by
returns-clause-own_text c = (refl, refl, refl, refl)

pub returns-clause-cleared_rows : goal.returns-clause-cleared_rows
unfolding char_width unicode_width rows_of visible has_wide drawn logged cleared fate kept_of shown_rows lines_of fitting grouped chars drawn_by
returns-clause-cleared_rows c = (refl, refl, refl, refl, refl)

pub returns-clause-cleared_head : goal.returns-clause-cleared_head
unfolding char_width unicode_width rows_of visible has_wide drawn logged cleared fate kept_of shown_rows lines_of fitting grouped chars drawn_by
returns-clause-cleared_head c = (refl, refl, refl, refl, refl)

pub returns-clause-without_columns : goal.returns-clause-without_columns
unfolding char_width unicode_width rows_of visible has_wide drawn logged cleared fate kept_of shown_rows lines_of fitting grouped chars drawn_by
returns-clause-without_columns c = (refl, refl, refl, refl, refl, refl)
