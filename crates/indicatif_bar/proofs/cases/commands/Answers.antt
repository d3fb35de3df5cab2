use Rattle.std.proofs.Common.{refl}
use Rattle.indicatif_bar.proofs.cases.commands.Goals as goal

pub returns-clause-twelve_steps : goal.returns-clause-twelve_steps
returns-clause-twelve_steps c = λ style. (refl, refl, refl, refl)

pub returns-clause-rate_and_eta : goal.returns-clause-rate_and_eta
returns-clause-rate_and_eta c = λ style. (refl, refl, refl)

pub returns-clause-asks : goal.returns-clause-asks
returns-clause-asks c = λ style. (refl, refl, refl)

pub returns-clause-reset_rates : goal.returns-clause-reset_rates
returns-clause-reset_rates c = λ style. (refl, refl, refl)

pub returns-clause-ends : goal.returns-clause-ends
returns-clause-ends c = λ style. (refl, refl, refl, refl, refl)

pub returns-clause-elapsed_times : goal.returns-clause-elapsed_times
returns-clause-elapsed_times c = λ style. (refl, refl, refl)

pub returns-clause-tab_widths : goal.returns-clause-tab_widths
returns-clause-tab_widths c = λ style. (refl, refl)

pub returns-clause-finishes : goal.returns-clause-finishes
returns-clause-finishes c = λ style. (refl, refl, refl, refl, refl, refl)

pub returns-clause-resets : goal.returns-clause-resets
returns-clause-resets c = λ style. (refl, refl)
