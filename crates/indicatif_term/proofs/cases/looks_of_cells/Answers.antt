-- Each case computes.
use Rattle.std.proofs.Common.{refl}
use Rattle.unicode_width.specs.Width.{char_width}
use Rattle.unicode_width.proofs.Computing.{unicode_width}
use Rattle.indicatif_text.specs.Columns.{rows_of, visible}
use Rattle.indicatif_term.proofs.cases.looks_of_cells.Goals as goal

pub returns-clause-space : goal.returns-clause-space
unfolding char_width unicode_width rows_of visible
returns-clause-space c = refl

pub returns-clause-empty : goal.returns-clause-empty
unfolding char_width unicode_width rows_of visible
returns-clause-empty c = refl

pub returns-clause-letter : goal.returns-clause-letter
unfolding char_width unicode_width rows_of visible
returns-clause-letter c = refl

pub returns-clause-continued : goal.returns-clause-continued
unfolding char_width unicode_width rows_of visible
returns-clause-continued c = refl

pub returns-clause-joiner : goal.returns-clause-joiner
unfolding char_width unicode_width rows_of visible
returns-clause-joiner c = refl

pub returns-clause-rows : goal.returns-clause-rows
unfolding char_width unicode_width rows_of visible
returns-clause-rows c = refl
