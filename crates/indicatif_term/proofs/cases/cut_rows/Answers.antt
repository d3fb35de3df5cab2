-- Each case computes.
use Rattle.std.proofs.Common.{refl}
use Rattle.std.specs.Str.{chars, is_utf8}
use Rattle.std.proofs.Math.Utf8.{encode}
use Rattle.unicode_width.proofs.Computing.{unicode_width}
use Rattle.indicatif_term.specs.Terminal.{after}
use Rattle.indicatif_term.specs.Resizes.{recut, resized}
use Rattle.indicatif_term.proofs.cases.cut_rows.Goals as goal

pub returns-clause-narrower : goal.returns-clause-narrower
unfolding after unicode_width is_utf8 chars encode recut resized
returns-clause-narrower c = refl

pub returns-clause-not_joined : goal.returns-clause-not_joined
unfolding after unicode_width is_utf8 chars encode recut resized
returns-clause-not_joined c = refl

pub returns-clause-spaces : goal.returns-clause-spaces
unfolding after unicode_width is_utf8 chars encode recut resized
returns-clause-spaces c = refl

pub returns-clause-wide : goal.returns-clause-wide
unfolding after unicode_width is_utf8 chars encode recut resized
returns-clause-wide c = refl

pub returns-clause-too_wide : goal.returns-clause-too_wide
unfolding after unicode_width is_utf8 chars encode recut resized
returns-clause-too_wide c = refl

pub returns-clause-joiner : goal.returns-clause-joiner
unfolding after unicode_width is_utf8 chars encode recut resized
returns-clause-joiner c = refl
