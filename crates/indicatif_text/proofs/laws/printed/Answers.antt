use Rattle.indicatif_text.proofs.PrintedLemmas.{formatted_is_printed}
use Rattle.indicatif_text.proofs.laws.printed.Goals as goal

pub returns : goal.returns
returns c = formatted_is_printed
