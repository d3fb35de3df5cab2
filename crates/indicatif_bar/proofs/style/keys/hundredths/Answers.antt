use Rattle.std.proofs.Common.{rules, ◌≡◌, ◌*◌, ◌<◌, ◌≤◌, ◌∙◌, ap, ap₂, arith}
use Rattle.std.proofs.Math.Nat.{mul-le-mul}
use Rattle.indicatif_text.specs.Format.{round}
use Rattle.indicatif_bar.proofs.style.keys.hundredths.Goals as goal

pub overflow_mul-from : goal.overflow_mul-from
overflow_mul-from c =
    let num : c.args.done.num < 18446744073709551616 = search rules in
    let part : c.from.result ≤ 18446744073709551615 = omega (arith, num, c.from.ensures) in
    let units : c.from-2.result ≤ 1000000000000000000 = omega (arith, c.from-2.ensures, c.requires.small) in
    omega (arith, mul-le-mul part units)

pub nearest-requires-clause-small : goal.nearest-requires-clause-small
nearest-requires-clause-small c =
    let part : c.from.result ≤ c.args.done.den = omega (arith, c.from.ensures, c.requires.whole) in
    let units : c.from-2.result ≤ 1000000000000000000 = omega (arith, c.from-2.ensures, c.requires.small) in
    omega (arith, mul-le-mul part units, c.requires.some)

pub returns : goal.returns
returns c =
    let num = c.args.done.num in
    let unit = c.args.unit in
    let same : num * (100 * unit) ≡ 100 * num * unit = omega arith in
    c.nearest.ensures ∙ ap (λ n. round n c.args.done.den) (ap₂ (λ a b. a * b) c.from.ensures c.from-2.ensures ∙ same)
