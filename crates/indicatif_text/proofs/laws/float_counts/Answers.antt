use Rattle.indicatif_text.proofs.TextLawLemmas.{float_count_parts, float_count_spells, no_zero_at_end, no_point_at_end}
use Rattle.indicatif_text.proofs.laws.float_counts.Goals as goal

pub returns-clause-spells : goal.returns-clause-spells
returns-clause-spells c = λ num den places small. float_count_spells num den places small

pub returns-clause-counts : goal.returns-clause-counts
returns-clause-counts c = λ num den places small. (float_count_parts num den places small).whole

pub returns-clause-ends : goal.returns-clause-ends
returns-clause-ends c = λ num den places front small. (λ e. no_zero_at_end num den places front small e, λ e. no_point_at_end num den places front small e)
