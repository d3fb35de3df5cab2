use Rattle.std.proofs.Common.{◌∙◌, arith, length-append, [], ◌/◌}
use Rattle.std.proofs.lemmas.Fmt.{length-decimal-le}
use Rattle.indicatif_text.proofs.ByteTextLemmas.{power_low, prefixed, unprefixed}
use Rattle.indicatif_text.proofs.format.bytes.prefixed_text.Goals as goal

pub prepend_number-requires : goal.prepend_number-requires
prepend_number-requires c =
    rw (c.prepend_str.ensures, c.new-text.ensures) (omega (arith, length-decimal-le 20 c.args.n (omega arith) (omega arith) (omega arith)))

pub returns-then-n-base : goal.returns-then-n-base
returns-then-n-base c =
    rw (c.prepend_number.ensures, c.prepend_str.ensures, c.new-text.ensures) (unprefixed c.args.letters.now c.args.tail.now c.args.base c.args.n c.if-n-base.true)

pub nearest-hundredths-requires-clause-some : goal.nearest-hundredths-requires-clause-some
nearest-hundredths-requires-clause-some c =
    let power = c.prefix_power-power in
    rw power.ensures.size (omega (arith, power_low c.args.base power.result.exponent (omega arith) power.ensures.first))

pub nearest-hundredths-requires-clause-small : goal.nearest-hundredths-requires-clause-small
nearest-hundredths-requires-clause-small c =
    let power = c.prefix_power-power in
    rw (power.ensures.size, c.from.ensures) (omega (arith, power_low c.args.base power.result.exponent (omega arith) power.ensures.first))

pub prepend_number-requires-2 : goal.prepend_number-requires-2
prepend_number-requires-2 c =
    let number = length-decimal-le 20 (c.nearest-hundredths.result / 100) (omega arith) (omega arith) (omega arith) in
    rw (c.prepend-3.ensures, c.prepend_two_digits.ensures, c.prepend-2.ensures, c.prepend.ensures, c.prepend_str-2.ensures, c.new-text.ensures)
    (omega (arith, number, c.requires.short, length-append c.args.tail.now []))

pub returns : goal.returns
returns c =
    let power = c.prefix_power-power in
    c.prepend_number-2.ensures ∙ rw (c.prepend-3.ensures, c.prepend_two_digits.ensures, c.prepend-2.ensures, c.prepend.ensures, c.prepend_str-2.ensures, c.new-text.ensures)
    (prefixed c.args.letters.now c.args.tail.now c.args.base c.args.n power.result.exponent c.nearest-hundredths.result power.result.size c.if-n-base.false power.ensures.exponent
    power.ensures.size (rw c.from.ensures at c.nearest-hundredths.ensures) (omega arith))
