-- Each case computes.
use Rattle.std.proofs.Common.{refl}
use Rattle.std.specs.Str.{chars, is_utf8}
use Rattle.std.proofs.Math.Utf8.{encode}
use Rattle.unicode_width.proofs.Computing.{unicode_width}
use Rattle.indicatif_term.specs.Terminal.{after}
use Rattle.indicatif_term.proofs.cases.waiting.Goals as goal

pub returns-clause-waits : goal.returns-clause-waits
unfolding after unicode_width is_utf8 chars encode
returns-clause-waits c = refl

pub returns-clause-right : goal.returns-clause-right
unfolding after unicode_width is_utf8 chars encode
returns-clause-right c = refl

pub returns-clause-left : goal.returns-clause-left
unfolding after unicode_width is_utf8 chars encode
returns-clause-left c = refl
