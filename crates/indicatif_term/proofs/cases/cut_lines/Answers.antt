-- Each case computes.
use Rattle.std.proofs.Common.{refl}
use Rattle.std.specs.Str.{chars}
use Rattle.unicode_width.specs.Width.{char_width}
use Rattle.unicode_width.proofs.Computing.{unicode_width}
use Rattle.indicatif_text.specs.Columns.{visible}
use Rattle.indicatif_term.proofs.cases.cut_lines.Goals as goal

pub returns-clause-each_row : goal.returns-clause-each_row
unfolding chars char_width visible
returns-clause-each_row c = refl

pub returns-clause-not_joined : goal.returns-clause-not_joined
unfolding chars char_width visible
returns-clause-not_joined c = refl

pub returns-clause-spaces : goal.returns-clause-spaces
unfolding chars char_width visible
returns-clause-spaces c = refl

pub returns-clause-empty : goal.returns-clause-empty
unfolding chars char_width visible
returns-clause-empty c = refl

pub returns-clause-colours : goal.returns-clause-colours
unfolding chars char_width visible
returns-clause-colours c = refl

pub returns-clause-escape : goal.returns-clause-escape
returns-clause-escape c = refl

pub returns-clause-too_wide : goal.returns-clause-too_wide
unfolding unicode_width chars visible
returns-clause-too_wide c = refl
