use Rattle.std.proofs.Common.{refl, inr, sym, ap, drop}
use Rattle.std.specs.Str.{chars, is_utf8}
use Rattle.std.specs.Fmt.{digits}
use Rattle.std.proofs.Math.Utf8.{encode}
use Rattle.std.proofs.lemmas.Bool.{false≢true}
use Rattle.std.specs.List.{list_all}
use Rattle.unicode_width.specs.Width.{char_width}
use Rattle.unicode_width.proofs.Computing.{unicode_width}
use Rattle.indicatif_text.specs.Columns.{rows_of, visible, has_wide}
use Rattle.indicatif_term.specs.Lists.{drawn, logged, cleared, shown_rows, lines_of, fitting, grouped}
use Rattle.indicatif_term.specs.Pictures.{is_blank}
use Rattle.indicatif_term.specs.Terminal.{after}
use Rattle.indicatif_bar.specs.Styles.{lines}
use Rattle.indicatif_bar.specs.Machines.{drawn_by}
use Rattle.indicatif_bar.proofs.cases.failures.Goals as goal

pub returns-clause-broken_off : goal.returns-clause-broken_off
unfolding char_width unicode_width rows_of visible has_wide drawn logged cleared shown_rows lines_of fitting grouped chars lines encode drawn_by after is_utf8
returns-clause-broken_off c = (refl, (λ kind. inr (inr (kind, refl, (refl, refl)))), refl, refl, refl, refl)

pub returns-clause-broken_bytes : goal.returns-clause-broken_bytes
unfolding char_width unicode_width rows_of visible has_wide drawn logged cleared shown_rows lines_of fitting grouped chars lines encode drawn_by after is_utf8
returns-clause-broken_bytes c = (refl, refl, refl, refl, refl)

pub returns-clause-emptied_row : goal.returns-clause-emptied_row
unfolding char_width unicode_width rows_of visible has_wide drawn logged cleared shown_rows lines_of fitting grouped chars lines encode drawn_by after is_utf8 digits
returns-clause-emptied_row c = (refl, λ call answer old new next run last. false≢true (ap (λ rows. list_all (list_all is_blank) (drop 2 rows)) (sym (last.0 9))))
