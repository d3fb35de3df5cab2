use Rattle.std.proofs.Common.{refl, inr}
use Rattle.std.specs.Str.{chars}
use Rattle.unicode_width.specs.Width.{char_width}
use Rattle.unicode_width.proofs.Computing.{unicode_width}
use Rattle.indicatif_text.specs.Columns.{rows_of, visible, has_wide}
use Rattle.indicatif_term.specs.Lists.{drawn, logged, cleared, fate, kept_of, shown_rows, lines_of, fitting, grouped}
use Rattle.indicatif_bar.specs.Machines.{drawn_by}
use Rattle.indicatif_board.proofs.cases.broken_draws.Goals as goal

pub returns : goal.returns
unfolding char_width unicode_width rows_of visible has_wide drawn logged cleared fate kept_of shown_rows lines_of fitting grouped chars drawn_by
returns c = (refl, λ kind. inr (inr (kind, refl, (refl, refl))), refl, refl, refl)
