use Rattle.std.proofs.Common.{◌∙◌, ◌∷◌, ap, sym, subst}
use Rattle.std.specs.Prelude.{chars, IsUtf8}
use Rattle.std.specs.Str.Iter.{chars_rest}
use Rattle.indicatif_text.proofs.WrappingLemmas.{past}
use Rattle.indicatif_text.proofs.spans.split_first.Goals as goal

pub returns-clause-first : goal.returns-clause-first
returns-clause-first c =
    let bs = chars_rest c.chars-rest.result in
    let rest = chars_rest c.next.new.self in
    let first = c.in_ok-first.first in
    ap chars (sym c.chars-rest.ensures.rest) ∙ past bs rest first (subst IsUtf8 (sym c.chars-rest.ensures.rest) c.utf8.text) c.in_ok-first.ensures.steps.0
    ∙ ap (λ xs. first ∷ chars xs) (sym c.as_str.ensures)
