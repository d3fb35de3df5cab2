use Rattle.std.proofs.Common.{◌≡◌, ◌+◌, ◌*◌, ◌%◌, ap, sym, ◌∙◌, arith, refl}
use Rattle.std.proofs.Common.{take, set, add-one, ◌++◌, ◌∷◌, [], length, inl, inr, ◌<◌}
use Rattle.indicatif_text.specs.Format.{last_digits}
use Rattle.std.proofs.Math.Nat.{pos_of_ne-zero}
use Rattle.std.proofs.Math.Seq.{take-suc-set}
use Rattle.std.proofs.lemmas.Bool.{eqb-false}
use Rattle.indicatif_text.specs.Inside.Quotients.{below}
use Rattle.indicatif_text.proofs.QuotientLemmas.{below_next, left_next, left_none, digit_more, raised_in_place, all_filled}
use Rattle.indicatif_text.proofs.format.quotients.fill_decimals.Goals as goal

pub loop-digit-init : goal.loop-digit-init
loop-digit-init c = record {
  rest_is = c.new-division.ensures.rest ∙ sym (left_none c.args.quotient.num c.args.quotient.den);
  den_is = c.new-division.ensures.den;
  filled = refl;
}

pub loop-digit-preserved : goal.loop-digit-preserved
loop-digit-preserved c =
    let num = c.args.quotient.num in
    let den = c.args.quotient.den in
    let place = c.loop-digit.digit-index in
    let before = c.loop-digit.invariant in
    let digit = c.next_digit in
    let next : below num den (place + 1) ≡ below num den place * 10 + digit.result =
    below_next num den place c.requires.den ∙ sym (ap (λ d. below num den place * 10 + d) (rw (before.rest_is, before.den_is) at digit.ensures.digit)) in
    record {
      rest_is = digit.ensures.rest ∙ rw (before.rest_is, before.den_is) (sym (left_next num den place));
      den_is = digit.ensures.den ∙ before.den_is;
      filled = ap (λ k. take k (set c.loop-digit.out place (48 + digit.result))) (add-one place) ∙ take-suc-set c.loop-digit.out place (48 + digit.result) (omega arith)
          ∙ ap (λ ds. ds ++ ((48 + digit.result) ∷ [])) before.filled ∙ sym (digit_more place (below num den place) (below num den (place + 1)) digit.result next digit.ensures.small);
    }

pub returns-then-not-is_empty : goal.returns-then-not-is_empty
returns-then-not-is_empty c =
    let loop = c.loop-digit in
    let n = length c.args.out.now in
    let m = below c.args.quotient.num c.args.quotient.den n in
    let done : loop.digit-index ≡ n = omega arith in
    let filled : loop.out ≡ last_digits n m = all_filled loop.out _ n loop.auto.out (rw done at loop.invariant.filled) in
    let some : 0 < n = omega (arith, loop.auto.out, pos_of_ne-zero (eqb-false (length loop.out) 0 (sym c.is_empty.ensures ∙ c.if-not-is_empty.true))) in
    let low : m % 10 < 9 = elim (c.requires.no_carry c.if-up.true) [ inl none ↦ absurd (omega arith) | inr h ↦ h ] in
    rw (c.if-up.true, loop.auto.out) (raised_in_place loop.out n m some filled low)
