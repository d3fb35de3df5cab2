-- Each case computes.
use Rattle.std.proofs.Common.{refl}
use Rattle.std.specs.Str.{chars, is_utf8}
use Rattle.std.proofs.Math.Utf8.{encode}
use Rattle.unicode_width.proofs.Computing.{unicode_width}
use Rattle.indicatif_term.specs.Terminal.{after}
use Rattle.indicatif_term.specs.Resizes.{recut, resized}
use Rattle.indicatif_term.proofs.cases.cut_windows.Goals as goal

pub returns-clause-scrolled : goal.returns-clause-scrolled
unfolding after unicode_width is_utf8 chars encode recut resized
returns-clause-scrolled c = refl

pub returns-clause-back : goal.returns-clause-back
unfolding after unicode_width is_utf8 chars encode recut resized
returns-clause-back c = refl

pub returns-clause-dropped : goal.returns-clause-dropped
unfolding after unicode_width is_utf8 chars encode recut resized
returns-clause-dropped c = refl

pub returns-clause-lasts : goal.returns-clause-lasts
unfolding after unicode_width is_utf8 chars encode recut resized
returns-clause-lasts c = refl

pub returns-clause-same : goal.returns-clause-same
unfolding after unicode_width is_utf8 chars encode recut resized
returns-clause-same c = refl
