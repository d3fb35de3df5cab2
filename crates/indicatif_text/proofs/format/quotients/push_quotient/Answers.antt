use Rattle.std.proofs.Common.{◌≡◌, ◌+◌, ◌∙◌, ◌<◌, ◌++◌, append-nil, length, ap, sym, arith}
use Rattle.indicatif_text.specs.Format.{last_digits, human_count, human_float_count}
use Rattle.indicatif_text.specs.Inside.Quotients.{raised, below}
use Rattle.indicatif_text.proofs.CountLemmas.{length-count}
use Rattle.indicatif_text.proofs.QuotientLemmas.{length-last_digits, length-with_point}
use Rattle.indicatif_text.proofs.StyleLemmas.{at_err}
use Rattle.indicatif_text.proofs.format.quotients.push_quotient.Goals as goal

pub prepend_wide_count-requires : goal.prepend_wide_count-requires
prepend_wide_count-requires c =
    omega (arith, length-count 39 c.of-rounded.result.whole (omega arith) (omega arith) (omega arith), ap length c.new-whole.ensures)

pub returns-in_err-reserve-clause-full : goal.returns-in_err-reserve-clause-full
returns-in_err-reserve-clause-full c =
    let rounded = c.of-rounded.result in
    let decimals = last_digits rounded.shown (raised rounded.up (below c.args.quotient.num c.args.quotient.den rounded.shown)) in
    let many : length decimals ≡ rounded.shown = length-last_digits rounded.shown _ in
    let some : 0 < rounded.shown = omega (arith, c.if-shown-eq0.false) in
    let len : length (human_float_count c.args.quotient.num c.args.quotient.den c.args.decimals) ≡ length (human_count rounded.whole) + (1 + length decimals) =
    ap length c.of-rounded.ensures.text ∙ length-with_point (human_count rounded.whole) decimals (omega (arith, many, some)) in
    let whole : length (human_count rounded.whole) ≡ length c.as_str-2.result.now =
    ap length (sym (c.as_str-2.ensures ∙ c.prepend_wide_count.ensures ∙ ap (λ x. human_count rounded.whole ++ x) c.new-whole.ensures ∙ append-nil (human_count rounded.whole))) in
    at_err c.from_residual.result (omega (arith, len, many, whole, c.in_err-reserve.ensures.full))
