use Rattle.std.proofs.Common.{◌≡◌, ◌%◌}
use Rattle.std.specs.Prelude.{◌==◌}
use Rattle.indicatif_text.specs.Inside.Quotients.{below}
use Rattle.indicatif_text.proofs.QuotientLemmas.{division_rest}
use Rattle.indicatif_text.proofs.QuotientLemmas.{EndsAt}
use Rattle.indicatif_text.proofs.format.quotients.Rounded.of.Given as goal

abbrev pub invariant-loop-place : goal.invariant-loop-place
invariant-loop-place l = record {
  rest_is : l.division.rest ≡ division_rest l.quotient.num l.quotient.den l.place;
  den_is : l.division.den ≡ l.quotient.den;
  odd_is : l.odd ≡ (below l.quotient.num l.quotient.den l.place % 2 == 1);
  plain : EndsAt l.quotient.num l.quotient.den 0 l.place l.nonzero;
  above : EndsAt l.quotient.num l.quotient.den 1 l.place l.not_nine;
}
