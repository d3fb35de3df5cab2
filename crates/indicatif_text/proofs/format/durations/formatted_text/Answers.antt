use Rattle.std.proofs.Common.{◌/◌, arith, append_assoc}
use Rattle.std.proofs.lemmas.Bool.{ne_eqb, eq-eqb}
use Rattle.std.proofs.lemmas.Fmt.{length-decimal-le}
use Rattle.indicatif_text.specs.Format.{formatted_duration}
use Rattle.indicatif_text.proofs.format.durations.formatted_text.Goals as goal

pub prepend_number-requires : goal.prepend_number-requires
prepend_number-requires c =
    let days = length-decimal-le 20 (c.args.nanos / 1000000000 / 86400) (omega arith) (omega arith) (omega arith) in
    rw (c.prepend_str.ensures, c.prepend_two_digits-3.ensures, c.prepend-2.ensures, c.prepend_two_digits-2.ensures, c.prepend.ensures, c.prepend_two_digits.ensures, c.new-text.ensures)
    (omega (arith, days))

pub returns-then-days-gt0 : goal.returns-then-days-gt0
unfolding formatted_duration
returns-then-days-gt0 c =
    rw (
      c.prepend_number.ensures,
      c.prepend_str.ensures,
      c.prepend_two_digits-3.ensures,
      c.prepend-2.ensures,
      c.prepend_two_digits-2.ensures,
      c.prepend.ensures,
      c.prepend_two_digits.ensures,
      c.new-text.ensures,
      ne_eqb (c.args.nanos / 1000000000 / 86400) 0 (λ e. omega arith),
    ) (simp append_assoc)

pub returns-else-days-gt0 : goal.returns-else-days-gt0
unfolding formatted_duration
returns-else-days-gt0 c =
    rw (
      c.prepend_two_digits-3.ensures,
      c.prepend-2.ensures,
      c.prepend_two_digits-2.ensures,
      c.prepend.ensures,
      c.prepend_two_digits.ensures,
      c.new-text.ensures,
      eq-eqb (c.args.nanos / 1000000000 / 86400) 0 (omega arith),
    )
