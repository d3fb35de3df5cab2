-- Each case computes.
use Rattle.std.proofs.Common.{refl}
use Rattle.std.specs.Str.{chars, is_utf8}
use Rattle.std.proofs.Math.Utf8.{encode}
use Rattle.unicode_width.proofs.Computing.{unicode_width}
use Rattle.indicatif_term.specs.Terminal.{after}
use Rattle.indicatif_term.specs.Resizes.{recut, resized}
use Rattle.indicatif_term.proofs.cases.cut_cursors.Goals as goal

pub returns-clause-front : goal.returns-clause-front
unfolding after unicode_width is_utf8 chars encode recut resized
returns-clause-front c = refl

pub returns-clause-within : goal.returns-clause-within
unfolding after unicode_width is_utf8 chars encode recut resized
returns-clause-within c = refl

pub returns-clause-too_far : goal.returns-clause-too_far
unfolding after unicode_width is_utf8 chars encode recut resized
returns-clause-too_far c = refl

pub returns-clause-waiting : goal.returns-clause-waiting
unfolding after unicode_width is_utf8 chars encode recut resized
returns-clause-waiting c = refl

pub returns-clause-wider : goal.returns-clause-wider
unfolding after unicode_width is_utf8 chars encode recut resized
returns-clause-wider c = refl

pub returns-clause-above : goal.returns-clause-above
unfolding after unicode_width is_utf8 chars encode recut resized
returns-clause-above c = refl

pub returns-clause-half_read : goal.returns-clause-half_read
unfolding after unicode_width is_utf8 chars encode recut resized
returns-clause-half_read c = refl
