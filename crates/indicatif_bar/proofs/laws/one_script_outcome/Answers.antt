use Rattle.indicatif_bar.proofs.ScriptLemmas.{script_once}
use Rattle.indicatif_bar.proofs.laws.one_script_outcome.Goals as goal

pub returns : goal.returns
returns g c = script_once
