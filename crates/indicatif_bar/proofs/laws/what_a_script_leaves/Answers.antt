use Rattle.indicatif_bar.proofs.ScriptLemmas.{scripts_carry}
use Rattle.indicatif_bar.proofs.laws.what_a_script_leaves.Goals as goal

pub returns : goal.returns
returns g c = scripts_carry
