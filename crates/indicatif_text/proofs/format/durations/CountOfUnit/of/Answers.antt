use Rattle.std.proofs.Common.{arith, ap, sym, ◌∙◌}
use Rattle.indicatif_text.specs.Inside.Durations.{span_of}
use Rattle.indicatif_text.proofs.DurationLemmas.{told-years, told-weeks, told-days, told-hours, told-minutes, told-seconds}
use Rattle.indicatif_text.proofs.format.durations.CountOfUnit.of.Goals as goal

pub returns-then-nanos-clause-count : goal.returns-then-nanos-clause-count
returns-then-nanos-clause-count c = c.at_least_two.ensures.count ∙ ap (λ t. t.0) (sym (told-years c.args.nanos (omega arith)))

pub returns-then-nanos-clause-unit : goal.returns-then-nanos-clause-unit
returns-then-nanos-clause-unit c = ap span_of c.at_least_two.ensures.unit ∙ ap (λ t. t.1) (sym (told-years c.args.nanos (omega arith)))

pub returns-then-nanos-2-clause-count : goal.returns-then-nanos-2-clause-count
returns-then-nanos-2-clause-count c = c.at_least_two-then-nanos-2.ensures.count ∙ ap (λ t. t.0) (sym (told-weeks c.args.nanos (omega arith) (omega arith)))

pub returns-then-nanos-2-clause-unit : goal.returns-then-nanos-2-clause-unit
returns-then-nanos-2-clause-unit c = ap span_of c.at_least_two-then-nanos-2.ensures.unit ∙ ap (λ t. t.1) (sym (told-weeks c.args.nanos (omega arith) (omega arith)))

pub returns-then-nanos-3-clause-count : goal.returns-then-nanos-3-clause-count
returns-then-nanos-3-clause-count c = c.at_least_two-then-nanos-3.ensures.count ∙ ap (λ t. t.0) (sym (told-days c.args.nanos (omega arith) (omega arith)))

pub returns-then-nanos-3-clause-unit : goal.returns-then-nanos-3-clause-unit
returns-then-nanos-3-clause-unit c = ap span_of c.at_least_two-then-nanos-3.ensures.unit ∙ ap (λ t. t.1) (sym (told-days c.args.nanos (omega arith) (omega arith)))

pub returns-then-nanos-4-clause-count : goal.returns-then-nanos-4-clause-count
returns-then-nanos-4-clause-count c = c.at_least_two-then-nanos-4.ensures.count ∙ ap (λ t. t.0) (sym (told-hours c.args.nanos (omega arith) (omega arith)))

pub returns-then-nanos-4-clause-unit : goal.returns-then-nanos-4-clause-unit
returns-then-nanos-4-clause-unit c = ap span_of c.at_least_two-then-nanos-4.ensures.unit ∙ ap (λ t. t.1) (sym (told-hours c.args.nanos (omega arith) (omega arith)))

pub returns-then-nanos-5-clause-count : goal.returns-then-nanos-5-clause-count
returns-then-nanos-5-clause-count c = c.at_least_two-then-nanos-5.ensures.count ∙ ap (λ t. t.0) (sym (told-minutes c.args.nanos (omega arith) (omega arith)))

pub returns-then-nanos-5-clause-unit : goal.returns-then-nanos-5-clause-unit
returns-then-nanos-5-clause-unit c = ap span_of c.at_least_two-then-nanos-5.ensures.unit ∙ ap (λ t. t.1) (sym (told-minutes c.args.nanos (omega arith) (omega arith)))

pub returns-else-nanos-5-clause-count : goal.returns-else-nanos-5-clause-count
returns-else-nanos-5-clause-count c = c.rounded_half_up.ensures ∙ ap (λ t. t.0) (sym (told-seconds c.args.nanos (omega arith)))

pub returns-else-nanos-5-clause-unit : goal.returns-else-nanos-5-clause-unit
returns-else-nanos-5-clause-unit c = ap (λ t. t.1) (sym (told-seconds c.args.nanos (omega arith)))
