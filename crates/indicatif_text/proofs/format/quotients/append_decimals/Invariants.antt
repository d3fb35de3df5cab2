use Rattle.std.proofs.Common.{string_len, string_capacity, ◌≡◌, ◌+◌, ◌≤◌, ◌++◌}
use Rattle.std.specs.String.{string_bytes}
use Rattle.indicatif_text.specs.Format.{last_digits}
use Rattle.indicatif_text.specs.Inside.Quotients.{below}
use Rattle.indicatif_text.proofs.QuotientLemmas.{division_rest}
use Rattle.indicatif_text.proofs.format.quotients.append_decimals.Given as goal

abbrev pub invariant-loop-place : goal.invariant-loop-place
invariant-loop-place l = record {
  rest_is : l.division.rest ≡ division_rest l.fn.quotient.num l.fn.quotient.den l.place;
  den_is : l.division.den ≡ l.fn.quotient.den;
  bytes_are : string_bytes l.out ≡ string_bytes l.fn.out ++ last_digits l.place (below l.fn.quotient.num l.fn.quotient.den l.place);
  len_is : string_len l.out ≡ string_len l.fn.out + l.place;
  capacity_is : string_capacity l.fn.out ≤ string_capacity l.out;
}
