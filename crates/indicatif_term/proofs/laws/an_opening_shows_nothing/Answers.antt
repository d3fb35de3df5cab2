use Rattle.indicatif_term.proofs.DrawingLemmas.{opening_shows}
use Rattle.indicatif_term.proofs.laws.an_opening_shows_nothing.Goals as goal

pub returns : goal.returns
returns c = opening_shows
