use Rattle.std.proofs.Common.{ap, ◌∙◌, chars}
use Rattle.std.specs.Prelude.{◌==◌}
use Rattle.indicatif_term.proofs.MovedByteLemmas.{first_joins}
use Rattle.indicatif_term.proofs.engine.changing.joins.Goals as goal

pub returns : goal.returns
returns c = ap (λ n. n == 0) c.width.ensures ∙ first_joins (chars c.args.text.now) _ c.next_cell.result _ (c.next_cell.ensures.first 0)
