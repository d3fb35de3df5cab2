use Rattle.std.proofs.Common.{refl, arith}
use Rattle.std.proofs.lemmas.Fmt.{length-decimal-le}
use Rattle.indicatif_text.specs.Format.{short_duration}
use Rattle.indicatif_text.proofs.format.durations.letter_text.Goals as goal

pub prepend_number-requires : goal.prepend_number-requires
prepend_number-requires c =
    rw (c.prepend.ensures, c.new-text.ensures) (omega (arith, length-decimal-le 20 c.of-told.result.count (omega arith) (omega arith) (omega arith)))

pub returns : goal.returns
unfolding short_duration
returns c =
    let told = c.of-told.ensures in
    rw (c.prepend_number.ensures, c.prepend.ensures, c.new-text.ensures, c.letter.ensures.letter, told.count, told.unit) refl
