use Rattle.std.proofs.Common.{◌∙◌, sym, ap, length, arith, ◌++◌}
use Rattle.std.specs.Prelude.{string_bytes}
use Rattle.std.proofs.lemmas.Str.{encodes-chars}
use Rattle.indicatif_text.proofs.StyleLemmas.{at_err}
use Rattle.indicatif_text.proofs.range.push_piece.Goals as goal

pub returns-clause-text : goal.returns-clause-text
returns-clause-text c = c.in_ok-push_str.ensures.bytes ∙ ap (λ x. string_bytes c.args.out.now ++ x) (sym (encodes-chars c.args.text.now c.utf8.text))

pub returns-in_err-push_str-clause-full : goal.returns-in_err-push_str-clause-full
returns-in_err-push_str-clause-full c =
    at_err c.from_residual.result (omega (arith, ap length (encodes-chars c.args.text.now c.utf8.text), c.in_err-push_str.ensures.full))
