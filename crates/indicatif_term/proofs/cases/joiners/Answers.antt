-- Each case computes.
use Rattle.std.proofs.Common.{refl}
use Rattle.std.specs.Str.{chars, is_utf8}
use Rattle.std.proofs.Math.Utf8.{encode}
use Rattle.unicode_width.proofs.Computing.{unicode_width}
use Rattle.indicatif_term.specs.Terminal.{after}
use Rattle.indicatif_term.proofs.cases.joiners.Goals as goal

pub returns-clause-joined : goal.returns-clause-joined
unfolding after unicode_width is_utf8 chars encode
returns-clause-joined c = refl

pub returns-clause-front : goal.returns-clause-front
unfolding after unicode_width is_utf8 chars encode
returns-clause-front c = refl

pub returns-clause-after_empty : goal.returns-clause-after_empty
unfolding after unicode_width is_utf8 chars encode
returns-clause-after_empty c = refl
