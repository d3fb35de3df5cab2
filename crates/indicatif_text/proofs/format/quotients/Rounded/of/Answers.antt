use Rattle.std.proofs.Common.{◌≡◌, ◌+◌, ◌*◌, ap, sym, ◌∙◌, arith, refl}
use Rattle.indicatif_text.specs.Inside.Quotients.{below}
use Rattle.indicatif_text.proofs.QuotientLemmas.{below_next, left_next, below_none, left_none, rounded_at, ends_none, plain_step, above_step, odd_step, text_plain, text_raised, text_carried}
use Rattle.indicatif_text.proofs.format.quotients.Rounded.of.Goals as goal

pub loop-place-init : goal.loop-place-init
loop-place-init c = record {
  rest_is = c.new-division.ensures.rest ∙ sym (left_none c.args.quotient.num c.args.quotient.den);
  den_is = c.new-division.ensures.den;
  odd_is = rw (c.from.ensures, below_none c.args.quotient.num c.args.quotient.den) refl;
  plain = ends_none c.args.quotient.num c.args.quotient.den 0;
  above = ends_none c.args.quotient.num c.args.quotient.den 1;
}

pub loop-place-preserved : goal.loop-place-preserved
loop-place-preserved c =
    let num = c.args.quotient.num in
    let den = c.args.quotient.den in
    let place = c.loop-place.place in
    let before = c.loop-place.invariant in
    let digit = c.next_digit-digit in
    let next : below num den (place + 1) ≡ below num den place * 10 + digit.result =
    below_next num den place c.requires ∙ sym (ap (λ d. below num den place * 10 + d) (rw (before.rest_is, before.den_is) at digit.ensures.digit)) in
    record {
      rest_is = digit.ensures.rest ∙ rw (before.rest_is, before.den_is) (sym (left_next num den place));
      den_is = digit.ensures.den ∙ before.den_is;
      odd_is = odd_step (below num den place) (below num den (place + 1)) digit.result next;
      plain = rw c.last_place-nonzero.ensures (plain_step num den place c.loop-place.nonzero digit.result next digit.ensures.small before.plain);
      above = rw c.last_place-not_nine.ensures (above_step num den place c.loop-place.not_nine digit.result next digit.ensures.small before.above);
    }

pub returns-then-not-rounds_up-clause-text : goal.returns-then-not-rounds_up-clause-text
returns-then-not-rounds_up-clause-text c =
    let num = c.args.quotient.num in
    let den = c.args.quotient.den in
    let loop = c.loop-place in
    let all : loop.place ≡ c.args.decimals = omega arith in
    let is = rw c.if-not-rounds_up.true at
    (rounded_at num den c.args.decimals loop.place loop.division.rest loop.odd c.rounds_up.result all loop.invariant.odd_is loop.invariant.rest_is c.rounds_up.ensures) in
    rw c.from.ensures (text_plain num den c.args.decimals loop.nonzero (rw all at loop.invariant.plain) is)

pub returns-then-not_nine-eq0-clause-text : goal.returns-then-not_nine-eq0-clause-text
returns-then-not_nine-eq0-clause-text c =
    let num = c.args.quotient.num in
    let den = c.args.quotient.den in
    let loop = c.loop-place in
    let all : loop.place ≡ c.args.decimals = omega arith in
    let is = rw c.if-not-rounds_up.false at
    (rounded_at num den c.args.decimals loop.place loop.division.rest loop.odd c.rounds_up.result all loop.invariant.odd_is loop.invariant.rest_is c.rounds_up.ensures) in
    rw c.from.ensures (text_carried num den c.args.decimals loop.not_nine c.if-not_nine-eq0.true (rw all at loop.invariant.above) is)

pub returns-clause-text : goal.returns-clause-text
returns-clause-text c =
    let num = c.args.quotient.num in
    let den = c.args.quotient.den in
    let loop = c.loop-place in
    let all : loop.place ≡ c.args.decimals = omega arith in
    let is = rw c.if-not-rounds_up.false at
    (rounded_at num den c.args.decimals loop.place loop.division.rest loop.odd c.rounds_up.result all loop.invariant.odd_is loop.invariant.rest_is c.rounds_up.ensures) in
    rw c.from.ensures (text_raised num den c.args.decimals loop.not_nine (omega arith) (rw all at loop.invariant.above) is)
