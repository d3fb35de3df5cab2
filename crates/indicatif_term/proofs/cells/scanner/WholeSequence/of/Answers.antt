use Rattle.std.proofs.Common.{◌∙◌, ◌+◌, ◌<◌, get_or, length, sym, subst, refl, arith}
use Rattle.indicatif_term.specs.Inside.Scanners.{IsWholeSequence}
use Rattle.indicatif_term.proofs.WholeSequenceLemmas.{sequence_ends}
use Rattle.indicatif_term.proofs.cells.scanner.WholeSequence.of.Goals as goal

pub returns : goal.returns
returns c =
    let bytes = c.args.bytes.now in
    let number = c.sequence_front-number.result.0 in
    let len = c.sequence_front-number.result.1 in
    let front = c.sequence_front-number.ensures in
    let more : len < length bytes = omega (arith, front.within, c.if-len-bytes.false) in
    subst (λ last. IsWholeSequence bytes number last (len + 1)) (sym c.from-last.ensures)
    (sequence_ends bytes number len (get_or bytes len 0) front more refl c.if-byte-ge128.false (sym c.is_parameter_byte.ensures ∙ c.if-is_parameter_byte.false))
