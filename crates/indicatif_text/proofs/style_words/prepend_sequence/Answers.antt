use Rattle.std.proofs.Common.{◌∙◌, ap, length, length-append, arith}
use Rattle.std.specs.Prelude.{decimal}
use Rattle.std.proofs.lemmas.Fmt.{length-decimal-le}
use Rattle.indicatif_text.proofs.style_words.prepend_sequence.Goals as goal

pub prepend_number-requires : goal.prepend_number-requires
prepend_number-requires c =
    omega (arith, length-decimal-le 2 c.args.number (omega arith) (omega (arith, c.requires.small)) (omega (arith, c.requires.small)), ap length c.prepend.ensures, c.requires.room)

pub prepend_str-requires-clause-room : goal.prepend_str-requires-clause-room
prepend_str-requires-clause-room c =
    let len = ap length c.prepend_number.ensures ∙ length-append (decimal c.args.number) c.prepend.new.self in
    omega (arith, length-decimal-le 2 c.args.number (omega arith) (omega (arith, c.requires.small)) (omega (arith, c.requires.small)), len, ap length c.prepend.ensures, c.requires.room)

pub returns-clause-short : goal.returns-clause-short
returns-clause-short c =
    let len = ap length c.prepend_number.ensures ∙ length-append (decimal c.args.number) c.prepend.new.self in
    omega (
      arith,
      ap length c.prepend_str.ensures,
      length-decimal-le 2 c.args.number (omega arith) (omega (arith, c.requires.small)) (omega (arith, c.requires.small)),
      len,
      ap length c.prepend.ensures,
    )
