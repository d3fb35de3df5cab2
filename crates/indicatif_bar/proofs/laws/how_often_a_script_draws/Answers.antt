use Rattle.indicatif_bar.proofs.ScriptBoundLemmas.{scripts_bounded, scripts_bounded_from, scripts_spend}
use Rattle.indicatif_bar.proofs.laws.how_often_a_script_draws.Goals as goal

pub returns : goal.returns
returns g c = record {
  made = scripts_bounded;
  from_any = scripts_bounded_from;
  spends = scripts_spend;
}
