use Rattle.std.proofs.Common.{refl}
use Rattle.indicatif_term.proofs.cases.limiters.Goals as goal

pub returns-clause-twenty_at_once : goal.returns-clause-twenty_at_once
returns-clause-twenty_at_once c = refl

pub returns-clause-whole_milliseconds : goal.returns-clause-whole_milliseconds
returns-clause-whole_milliseconds c = refl

pub returns-clause-no_more_in_hand : goal.returns-clause-no_more_in_hand
returns-clause-no_more_in_hand c = refl

pub returns-clause-none_before : goal.returns-clause-none_before
returns-clause-none_before c = refl
