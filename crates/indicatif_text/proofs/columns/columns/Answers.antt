use Rattle.std.proofs.Common.{◌<◌, ◌^◌, arith, rules, length}
use Rattle.indicatif_text.proofs.WidthLemmas.{columns_le, columns_pass}
use Rattle.indicatif_text.proofs.columns.columns.Goals as goal

pub overflow_mul-columns : goal.overflow_mul-columns
overflow_mul-columns c =
    let size : length c.args.text.now < 2 ^ 63 = search rules in
    omega (arith, size, columns_le c.args.text.now c.utf8.text, columns_pass _ _ _ _ c.in-Some.ensures.1, c.rest.invariant.sum_is)

pub overflow_add-columns : goal.overflow_add-columns
overflow_add-columns c =
    let size : length c.args.text.now < 2 ^ 63 = search rules in
    omega (arith, size, columns_le c.args.text.now c.utf8.text, columns_pass _ _ _ _ c.in-Some.ensures.1, c.rest.invariant.sum_is)

pub rest-preserved : goal.rest-preserved
rest-preserved c = record { sum_is = omega (arith, columns_pass _ _ _ _ c.in-Some.ensures.1, c.rest.invariant.sum_is) }
