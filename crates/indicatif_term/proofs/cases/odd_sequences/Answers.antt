-- Each case computes.
use Rattle.std.proofs.Common.{refl}
use Rattle.std.specs.Str.{chars, is_utf8}
use Rattle.std.proofs.Math.Utf8.{encode}
use Rattle.unicode_width.proofs.Computing.{unicode_width}
use Rattle.indicatif_term.specs.Terminal.{after}
use Rattle.indicatif_term.proofs.cases.odd_sequences.Goals as goal

pub returns-clause-no_bracket : goal.returns-clause-no_bracket
unfolding after unicode_width is_utf8 chars encode
returns-clause-no_bracket c = refl

pub returns-clause-twice : goal.returns-clause-twice
unfolding after unicode_width is_utf8 chars encode
returns-clause-twice c = refl

pub returns-clause-swallowed : goal.returns-clause-swallowed
unfolding after unicode_width is_utf8 chars encode
returns-clause-swallowed c = refl

pub returns-clause-semicolon : goal.returns-clause-semicolon
unfolding after unicode_width is_utf8 chars encode
returns-clause-semicolon c = refl

pub returns-clause-zeros : goal.returns-clause-zeros
unfolding after unicode_width is_utf8 chars encode
returns-clause-zeros c = refl

pub returns-clause-huge : goal.returns-clause-huge
unfolding after unicode_width is_utf8 chars encode
returns-clause-huge c = refl

pub returns-clause-cut_short : goal.returns-clause-cut_short
unfolding after unicode_width is_utf8 chars encode
returns-clause-cut_short c = refl

pub returns-clause-stray : goal.returns-clause-stray
unfolding after unicode_width is_utf8 chars encode
returns-clause-stray c = refl
