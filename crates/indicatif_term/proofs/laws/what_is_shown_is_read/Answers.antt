use Rattle.indicatif_term.proofs.RowReadingLemmas.{shown_is_read}
use Rattle.indicatif_term.proofs.laws.what_is_shown_is_read.Goals as goal

pub returns : goal.returns
returns c = shown_is_read
