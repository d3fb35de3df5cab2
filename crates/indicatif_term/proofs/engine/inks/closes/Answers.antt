use Rattle.std.proofs.Common.{◌∙◌}
use Rattle.indicatif_term.proofs.ColourLemmas.{closes_chars}
use Rattle.indicatif_term.proofs.engine.inks.closes.Goals as goal

pub returns : goal.returns
returns c = c.eq.ensures ∙ closes_chars c.args.sequence.now c.utf8.sequence
