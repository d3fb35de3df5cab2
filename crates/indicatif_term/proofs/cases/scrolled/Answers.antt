-- Each case computes.
use Rattle.std.proofs.Common.{refl}
use Rattle.std.specs.Str.{chars, is_utf8}
use Rattle.std.proofs.Math.Utf8.{encode}
use Rattle.unicode_width.proofs.Computing.{unicode_width}
use Rattle.indicatif_term.specs.Terminal.{after}
use Rattle.indicatif_term.proofs.cases.scrolled.Goals as goal

pub returns-clause-picture : goal.returns-clause-picture
unfolding after unicode_width is_utf8 chars encode
returns-clause-picture c = refl

pub returns-clause-contents : goal.returns-clause-contents
unfolding after unicode_width is_utf8 chars encode
returns-clause-contents c = refl

pub returns-clause-space : goal.returns-clause-space
unfolding after unicode_width is_utf8 chars encode
returns-clause-space c = refl

pub returns-clause-blank : goal.returns-clause-blank
unfolding after unicode_width is_utf8 chars encode
returns-clause-blank c = refl
