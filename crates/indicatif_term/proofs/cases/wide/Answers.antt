-- Each case computes.
use Rattle.std.proofs.Common.{refl}
use Rattle.std.specs.Str.{chars, is_utf8}
use Rattle.std.proofs.Math.Utf8.{encode}
use Rattle.unicode_width.proofs.Computing.{unicode_width}
use Rattle.indicatif_term.specs.Terminal.{after}
use Rattle.indicatif_term.proofs.cases.wide.Goals as goal

pub returns-clause-over : goal.returns-clause-over
unfolding after unicode_width is_utf8 chars encode
returns-clause-over c = refl

pub returns-clause-next_row : goal.returns-clause-next_row
unfolding after unicode_width is_utf8 chars encode
returns-clause-next_row c = refl

pub returns-clause-too_wide : goal.returns-clause-too_wide
unfolding after unicode_width is_utf8 chars encode
returns-clause-too_wide c = refl

pub returns-clause-three : goal.returns-clause-three
unfolding after unicode_width is_utf8 chars encode
returns-clause-three c = refl
