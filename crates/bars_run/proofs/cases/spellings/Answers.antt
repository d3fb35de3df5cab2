use Rattle.std.proofs.Common.{refl}
use Rattle.std.specs.Str.{chars, is_utf8}
use Rattle.std.proofs.Math.Utf8.{encode}
use Rattle.bars_run.proofs.cases.spellings.Goals as goal

pub returns-clause-words : goal.returns-clause-words
returns-clause-words c = (refl, refl, refl, refl, refl, refl)

pub returns-clause-lines : goal.returns-clause-lines
returns-clause-lines c = (refl, refl, refl, refl)

pub returns-clause-commands : goal.returns-clause-commands
unfolding is_utf8 chars encode
returns-clause-commands c = (refl, refl, refl, refl, refl, refl, refl, refl, refl, refl, refl, refl, refl, refl, refl, refl)
