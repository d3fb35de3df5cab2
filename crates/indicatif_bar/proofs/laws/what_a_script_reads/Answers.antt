use Rattle.indicatif_bar.proofs.ScriptLemmas.{scripts_read}
use Rattle.indicatif_bar.proofs.laws.what_a_script_reads.Goals as goal

pub returns : goal.returns
returns g c = scripts_read
