use Rattle.indicatif_bar.proofs.CommandLemmas.{tabs_agree, finished_draws_are_forced}
use Rattle.indicatif_bar.proofs.laws.commands.Goals as goal

pub returns-clause-tabs : goal.returns-clause-tabs
returns-clause-tabs g c = tabs_agree

pub returns-clause-finished : goal.returns-clause-finished
returns-clause-finished g c = finished_draws_are_forced
