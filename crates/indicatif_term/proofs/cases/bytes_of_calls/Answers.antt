-- Each case computes.
use Rattle.std.proofs.Common.{refl}
use Rattle.std.specs.Fmt.{digits}
use Rattle.indicatif_term.proofs.cases.bytes_of_calls.Goals as goal

pub returns-clause-up : goal.returns-clause-up
unfolding digits
returns-clause-up c = refl

pub returns-clause-down : goal.returns-clause-down
unfolding digits
returns-clause-down c = refl

pub returns-clause-right : goal.returns-clause-right
unfolding digits
returns-clause-right c = refl

pub returns-clause-left : goal.returns-clause-left
unfolding digits
returns-clause-left c = refl

pub returns-clause-by_none : goal.returns-clause-by_none
returns-clause-by_none c = refl

pub returns-clause-empty_line : goal.returns-clause-empty_line
returns-clause-empty_line c = refl

pub returns-clause-in_turn : goal.returns-clause-in_turn
unfolding digits
returns-clause-in_turn c = refl
