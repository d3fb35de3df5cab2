use Rattle.std.proofs.Common.{◌≡◌, ◌+◌, ◌∙◌, sym, ap, length, arith}
use Rattle.std.specs.Prelude.{string_bytes}
use Rattle.indicatif_text.specs.StyleWords.{numbers_of, styled, opening_of}
use Rattle.indicatif_text.specs.Inside.StyleWords.{closing_of}
use Rattle.indicatif_text.proofs.StyleLemmas.{styled_parts, regrouped_ends, regrouped_length, at_err}
use Rattle.indicatif_text.proofs.style_words.Style.apply_to.Goals as goal

pub returns-in_err-reserve-clause-full : goal.returns-in_err-reserve-clause-full
returns-in_err-reserve-clause-full c =
    let numbers = numbers_of c.args.self.now in
    let opening = opening_of c.args.colours numbers in
    let len : length (styled c.args.colours numbers c.args.text.now) ≡ length opening + (length c.args.text.now + length (closing_of opening)) =
    ap length (styled_parts c.args.colours numbers c.args.text.now) ∙ regrouped_length opening c.args.text.now (closing_of opening) in
    let before : length opening ≡ length c.as_str-2.result.now = ap length (sym (c.as_str-2.ensures ∙ c.opening-opening.ensures.sequences)) in
    let behind : length (closing_of opening) ≡ length c.closing-end.result.now = ap length (sym (c.closing-end.ensures ∙ ap closing_of (c.as_str.ensures ∙ c.opening-opening.ensures.sequences))) in
    at_err c.from_residual.result (omega (arith, len, before, behind, c.in_err-reserve.ensures.full, c.saturating_add.ensures))

pub returns-clause-ok : goal.returns-clause-ok
returns-clause-ok c =
    let numbers = numbers_of c.args.self.now in
    let opening = opening_of c.args.colours numbers in
    let parts = styled_parts c.args.colours numbers c.args.text.now in
    let together = regrouped_ends (string_bytes c.args.out.now) opening c.args.text.now (closing_of opening) in
    cc (parts, together)
