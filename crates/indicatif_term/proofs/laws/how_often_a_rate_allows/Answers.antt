use Rattle.indicatif_term.proofs.LimiterLemmas.{draws_are_bounded}
use Rattle.indicatif_term.proofs.laws.how_often_a_rate_allows.Goals as goal

pub returns : goal.returns
returns c = draws_are_bounded
