use Rattle.indicatif_term.proofs.SizeMemoryLemmas.{opening_takes, cleared_takes, forgotten_takes}
use Rattle.indicatif_term.proofs.laws.where_a_size_takes_none.Goals as goal

pub returns : goal.returns
returns c = record {
  opening = opening_takes;
  cleared = cleared_takes;
  failed = forgotten_takes;
}
