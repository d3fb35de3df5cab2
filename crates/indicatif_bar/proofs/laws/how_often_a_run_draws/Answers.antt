use Rattle.indicatif_bar.proofs.BoundLemmas.{runs_bounded, runs_bounded_from, run_spends, spendings_add_up}
use Rattle.indicatif_bar.proofs.laws.how_often_a_run_draws.Goals as goal

pub returns-clause-made : goal.returns-clause-made
returns-clause-made g c = λ m limiter limited. runs_bounded m limiter limited

pub returns-clause-from_any : goal.returns-clause-from_any
returns-clause-from_any g c = λ m limiter limited. runs_bounded_from m limiter limited

pub returns-clause-spends : goal.returns-clause-spends
returns-clause-spends g c = λ m limiter limited. run_spends m limiter limited

pub returns-clause-adds_up : goal.returns-clause-adds_up
returns-clause-adds_up g c = spendings_add_up
