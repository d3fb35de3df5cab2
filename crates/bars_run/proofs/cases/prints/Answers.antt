use Rattle.std.proofs.Common.{refl}
use Rattle.std.specs.Str.{chars, is_utf8}
use Rattle.std.proofs.Math.Utf8.{encode}
use Rattle.unicode_width.specs.Width.{char_width}
use Rattle.unicode_width.proofs.Computing.{unicode_width}
use Rattle.indicatif_text.specs.Columns.{rows_of, visible, has_wide}
use Rattle.indicatif_term.specs.Lists.{drawn, logged, shown_rows, lines_of, fitting, grouped}
use Rattle.indicatif_term.specs.Resizes.{recut, resized_lists}
use Rattle.indicatif_bar.specs.Styles.{lines}
use Rattle.indicatif_bar.specs.Machines.{drawn_by}
use Rattle.bars_run.proofs.cases.prints.Goals as goal

pub returns-clause-log : goal.returns-clause-log
unfolding is_utf8 char_width unicode_width rows_of visible has_wide drawn logged shown_rows lines_of fitting grouped chars lines encode drawn_by resized_lists recut
returns-clause-log c = (refl, _, refl, refl, refl)

pub returns-clause-empty : goal.returns-clause-empty
unfolding is_utf8 char_width unicode_width rows_of visible has_wide drawn logged shown_rows lines_of fitting grouped chars lines encode drawn_by resized_lists recut
returns-clause-empty c = ((refl, _, refl, refl, refl), (refl, _, refl, refl, refl))

pub returns-clause-size : goal.returns-clause-size
unfolding is_utf8 char_width unicode_width rows_of visible has_wide drawn logged shown_rows lines_of fitting grouped chars lines encode drawn_by resized_lists recut
returns-clause-size c = (refl, _, refl, refl, refl)
