use Rattle.std.proofs.Common.{refl, ap, arith, inl, inr, Ok, Err}
use Rattle.std.proofs.lemmas.Bool.{false≢true}
use Rattle.std.specs.Str.{chars}
use Rattle.unicode_width.specs.Width.{char_width}
use Rattle.unicode_width.proofs.Computing.{unicode_width}
use Rattle.indicatif_text.specs.Columns.{visible, rows_of, has_wide}
use Rattle.uses.proofs.texts.rows_of_wide_ones.Goals as goal

pub returns : goal.returns
unfolding chars char_width unicode_width visible rows_of
returns c = ap Ok c.in_ok-metrics.ensures.height

pub returns-in_err-metrics : goal.returns-in_err-metrics
unfolding chars char_width unicode_width visible has_wide
returns-in_err-metrics c = absurd (elim c.in_err-metrics.ensures.no_other [
  | inl none ↦ let three = c.in_err-metrics.ensures.no_columns.0 (ap Err none) in omega (arith, three)
  | inr wide ↦ false≢true (c.in_err-metrics.ensures.too_wide.0 (ap Err wide)).1
])
