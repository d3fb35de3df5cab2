use Rattle.indicatif_term.proofs.FeedLemmas.{after-append}
use Rattle.indicatif_term.proofs.laws.any_cut.Goals as goal

pub returns : goal.returns
returns c = after-append
