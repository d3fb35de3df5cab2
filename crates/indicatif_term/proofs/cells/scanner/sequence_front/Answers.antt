use Rattle.std.proofs.Common.{◌≡◌, ◌∙◌, ◌+◌, true, get_or, sym, ap, subst, refl}
use Rattle.indicatif_text.specs.Columns.{is_parameter}
use Rattle.indicatif_text.proofs.ColourSequenceLemmas.{parameter_small}
use Rattle.indicatif_term.specs.Terminal.{number_with}
use Rattle.indicatif_term.specs.Inside.Scanners.{IsSequenceFront}
use Rattle.indicatif_term.proofs.WholeSequenceLemmas.{sequence_begins, sequence_goes_on}
use Rattle.indicatif_term.proofs.cells.scanner.sequence_front.Goals as goal

pub bytes-init : goal.bytes-init
bytes-init c = sequence_begins c.args.bytes.now c.requires.some c.requires.escape c.requires.bracket

pub bytes-preserved : goal.bytes-preserved
bytes-preserved c =
    let bytes = c.args.bytes.now in
    let len = c.bytes.len in
    let byte = get_or bytes len 0 in
    let is : is_parameter byte ≡ true = sym c.is_parameter_byte.ensures ∙ c.if-is_parameter_byte.true in
    subst (λ n. IsSequenceFront bytes n (len + 1)) (sym (c.number_with-number.ensures ∙ ap (number_with c.bytes.number) c.from-digit.ensures))
    (sequence_goes_on bytes c.bytes.number len byte c.bytes.invariant c.bytes-test.true refl (parameter_small byte is) is)
