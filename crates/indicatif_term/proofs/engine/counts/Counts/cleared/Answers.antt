use Rattle.std.proofs.Common.{refl}
use Rattle.indicatif_term.proofs.CountLemmas.{cleared_counts_of}
use Rattle.indicatif_term.proofs.engine.counts.Counts.cleared.Goals as goal

pub returns : goal.returns
returns c = λ l h. cleared_counts_of l c.args.self.now _ h refl refl refl refl refl refl
