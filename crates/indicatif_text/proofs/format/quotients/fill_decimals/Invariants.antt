use Rattle.std.proofs.Common.{◌≡◌, take}
use Rattle.indicatif_text.specs.Format.{last_digits}
use Rattle.indicatif_text.specs.Inside.Quotients.{below}
use Rattle.indicatif_text.proofs.QuotientLemmas.{division_rest}
use Rattle.indicatif_text.proofs.format.quotients.fill_decimals.Given as goal

abbrev pub invariant-loop-digit : goal.invariant-loop-digit
invariant-loop-digit l = record {
  rest_is : l.division.rest ≡ division_rest l.fn.quotient.num l.fn.quotient.den l.digit-index;
  den_is : l.division.den ≡ l.fn.quotient.den;
  filled : take l.digit-index l.out ≡ last_digits l.digit-index (below l.fn.quotient.num l.fn.quotient.den l.digit-index);
}
