-- Each case computes.
use Rattle.std.proofs.Common.{refl}
use Rattle.std.specs.Str.{chars, is_utf8}
use Rattle.std.proofs.Math.Utf8.{encode}
use Rattle.unicode_width.proofs.Computing.{unicode_width}
use Rattle.indicatif_term.specs.Terminal.{after}
use Rattle.indicatif_term.proofs.cases.long_lines.Goals as goal

pub returns-clause-contents : goal.returns-clause-contents
unfolding after unicode_width is_utf8 chars encode
returns-clause-contents c = refl

pub returns-clause-cursor : goal.returns-clause-cursor
unfolding after unicode_width is_utf8 chars encode
returns-clause-cursor c = refl
