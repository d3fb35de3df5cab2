use Rattle.indicatif_bar.proofs.ScriptLemmas.{safe_rows_last}
use Rattle.indicatif_bar.proofs.laws.what_lasts_after_a_failure.Goals as goal

pub returns : goal.returns
returns g c = safe_rows_last
