-- Each case computes.
use Rattle.std.proofs.Common.{refl}
use Rattle.std.specs.Str.{chars, is_utf8}
use Rattle.std.proofs.Math.Utf8.{encode}
use Rattle.unicode_width.proofs.Computing.{unicode_width}
use Rattle.indicatif_term.specs.Terminal.{after}
use Rattle.indicatif_term.proofs.cases.unwrapped.Goals as goal

pub returns-clause-on : goal.returns-clause-on
unfolding after unicode_width is_utf8 chars encode
returns-clause-on c = refl

pub returns-clause-off : goal.returns-clause-off
unfolding after unicode_width is_utf8 chars encode
returns-clause-off c = refl

pub returns-clause-cursor : goal.returns-clause-cursor
unfolding after unicode_width is_utf8 chars encode
returns-clause-cursor c = refl

pub returns-clause-waits_no_more : goal.returns-clause-waits_no_more
unfolding after unicode_width is_utf8 chars encode
returns-clause-waits_no_more c = refl

pub returns-clause-on_again : goal.returns-clause-on_again
unfolding after unicode_width is_utf8 chars encode
returns-clause-on_again c = refl

pub returns-clause-wide : goal.returns-clause-wide
unfolding after unicode_width is_utf8 chars encode
returns-clause-wide c = refl

pub returns-clause-too_wide : goal.returns-clause-too_wide
unfolding after unicode_width is_utf8 chars encode
returns-clause-too_wide c = refl

pub returns-clause-next_row : goal.returns-clause-next_row
unfolding after unicode_width is_utf8 chars encode
returns-clause-next_row c = refl
