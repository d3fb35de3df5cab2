use Rattle.std.proofs.Common.{true, ◌≡◌, ◌+◌, ◌*◌, ◌<◌, ◌++◌, ◌∷◌, [], ap, sym, ◌∙◌, arith, append-nil, append_assoc}
use Rattle.std.specs.String.{string_bytes}
use Rattle.indicatif_text.specs.Format.{last_digits}
use Rattle.indicatif_text.specs.Inside.Quotients.{below, raised}
use Rattle.indicatif_text.proofs.QuotientLemmas.{below_next, left_next, left_none, digit_more, last_raised, last_low}
use Rattle.indicatif_text.proofs.format.quotients.append_decimals.Goals as goal
use Rattle.indicatif_text.proofs.format.quotients.append_decimals.Goals.{then-rounded, else-rounded}

pub loop-place-init : goal.loop-place-init
loop-place-init c = record {
  rest_is = c.new-division.ensures.rest ∙ sym (left_none c.args.quotient.num c.args.quotient.den);
  den_is = c.new-division.ensures.den;
  bytes_are = sym (append-nil (string_bytes c.args.out.now));
  len_is = omega arith;
  capacity_is = omega arith;
}

pub append_digit-requires-clause-room : goal.append_digit-requires-clause-room
append_digit-requires-clause-room c =
    let i = c.loop-place.invariant in
    omega (arith, i.len_is, i.capacity_is, c.requires.room, c.loop-place-test.true)

pub loop-place-preserved : goal.loop-place-preserved
loop-place-preserved c =
    let num = c.args.quotient.num in
    let den = c.args.quotient.den in
    let place = c.loop-place.place in
    let before = c.loop-place.invariant in
    let digit = c.next_digit in
    let next : below num den (place + 1) ≡ below num den place * 10 + digit.result =
    below_next num den place c.requires.den ∙ sym (ap (λ d. below num den place * 10 + d) (rw (before.rest_is, before.den_is) at digit.ensures.digit)) in
    let more = digit_more place (below num den place) (below num den (place + 1)) digit.result next digit.ensures.small in
    record {
      rest_is = digit.ensures.rest ∙ rw (before.rest_is, before.den_is) (sym (left_next num den place));
      den_is = digit.ensures.den ∙ before.den_is;
      bytes_are = c.append_digit.ensures.bytes ∙ ap (λ x. x ++ ((48 + digit.result) ∷ [])) before.bytes_are
          ∙ append_assoc (string_bytes c.args.out.now) (last_digits place (below num den place)) ((48 + digit.result) ∷ []) ∙ ap (λ x. string_bytes c.args.out.now ++ x) (sym more);
      len_is = omega (arith, c.append_digit.ensures.len, before.len_is);
      capacity_is = omega (arith, c.append_digit.ensures.capacity, before.capacity_is);
    }

pub append_digit-requires-2-clause-digit : goal.append_digit-requires-2-clause-digit
append_digit-requires-2-clause-digit c =
    let num = c.args.quotient.num in
    let den = c.args.quotient.den in
    let place = c.loop-place.place in
    let i = c.loop-place.invariant in
    let digit = c.next_digit-last.result in
    let shown : c.args.rounded.shown ≡ place + 1 = omega (arith, c.requires.some, c.loop-place-test.false, c.loop-place.auto.place-end) in
    let next : below num den (place + 1) ≡ below num den place * 10 + digit =
    below_next num den place c.requires.den ∙ sym (ap (λ d. below num den place * 10 + d) (rw (i.rest_is, i.den_is) at c.next_digit-last.ensures.digit)) in
    elim c.if-rounded.branch [
      | then-rounded w ↦ omega (arith, w.append_digit-is, last_low num den c.args.rounded.shown place digit shown next c.next_digit-last.ensures.small (c.requires.no_carry w.if-rounded.true))
      | else-rounded w ↦ omega (arith, w.append_digit-is, c.next_digit-last.ensures.small)
    ]

pub append_digit-requires-2-clause-room : goal.append_digit-requires-2-clause-room
append_digit-requires-2-clause-room c =
    let i = c.loop-place.invariant in
    omega (arith, i.len_is, i.capacity_is, c.requires.room, c.requires.some, c.loop-place.auto.place-end)

pub returns : goal.returns
returns c =
    let num = c.args.quotient.num in
    let den = c.args.quotient.den in
    let place = c.loop-place.place in
    let i = c.loop-place.invariant in
    let digit = c.next_digit-last.result in
    let up = c.args.rounded.up in
    let shown : c.args.rounded.shown ≡ place + 1 = omega (arith, c.requires.some, c.loop-place-test.false, c.loop-place.auto.place-end) in
    let next : below num den (place + 1) ≡ below num den place * 10 + digit =
    below_next num den place c.requires.den ∙ sym (ap (λ d. below num den place * 10 + d) (rw (i.rest_is, i.den_is) at c.next_digit-last.ensures.digit)) in
    let low : up ≡ true → digit < 9 = λ on. last_low num den c.args.rounded.shown place digit shown next c.next_digit-last.ensures.small (c.requires.no_carry on) in
    let is : c.if-rounded.append_digit ≡ raised up digit = elim c.if-rounded.branch [
      | then-rounded w ↦ w.append_digit-is ∙ ap (λ b. raised b digit) (sym w.if-rounded.true)
      | else-rounded w ↦ w.append_digit-is ∙ ap (λ b. raised b digit) (sym w.if-rounded.false)
    ] in
    let last = last_raised up place c.args.rounded.shown (below num den place) (below num den (place + 1)) digit c.if-rounded.append_digit shown next c.next_digit-last.ensures.small is low in
    c.append_digit-2.ensures.bytes ∙ ap (λ x. x ++ ((48 + c.if-rounded.append_digit) ∷ [])) i.bytes_are
    ∙ append_assoc (string_bytes c.args.out.now) (last_digits place (below num den place)) ((48 + c.if-rounded.append_digit) ∷ [])
    ∙ ap (λ x. string_bytes c.args.out.now ++ x) (last ∙ ap (λ k. last_digits c.args.rounded.shown (raised up (below num den k))) (sym shown))
