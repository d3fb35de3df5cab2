-- Each case computes.
use Rattle.std.proofs.Common.{refl}
use Rattle.std.specs.Str.{chars, is_utf8}
use Rattle.std.proofs.Math.Utf8.{encode}
use Rattle.unicode_width.proofs.Computing.{unicode_width}
use Rattle.indicatif_term.specs.Terminal.{after}
use Rattle.indicatif_term.proofs.cases.private_sequences.Goals as goal

pub returns-clause-updates : goal.returns-clause-updates
unfolding after unicode_width is_utf8 chars encode
returns-clause-updates c = refl

pub returns-clause-others : goal.returns-clause-others
unfolding after unicode_width is_utf8 chars encode
returns-clause-others c = refl

pub returns-clause-zeros : goal.returns-clause-zeros
unfolding after unicode_width is_utf8 chars encode
returns-clause-zeros c = refl

pub returns-clause-several : goal.returns-clause-several
unfolding after unicode_width is_utf8 chars encode
returns-clause-several c = refl

pub returns-clause-plain : goal.returns-clause-plain
unfolding after unicode_width is_utf8 chars encode
returns-clause-plain c = refl

pub returns-clause-half_read : goal.returns-clause-half_read
unfolding after unicode_width is_utf8 chars encode
returns-clause-half_read c = refl

pub returns-clause-end_emptied : goal.returns-clause-end_emptied
unfolding after unicode_width is_utf8 chars encode
returns-clause-end_emptied c = refl

pub returns-clause-wide_emptied : goal.returns-clause-wide_emptied
unfolding after unicode_width is_utf8 chars encode
returns-clause-wide_emptied c = refl

pub returns-clause-row_emptied : goal.returns-clause-row_emptied
unfolding after unicode_width is_utf8 chars encode
returns-clause-row_emptied c = refl
