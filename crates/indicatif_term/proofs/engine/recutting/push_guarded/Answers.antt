use Rattle.std.proofs.Common.{◌≡◌, ◌∙◌, ◌++◌, ◌∷◌, [], ap, refl, rules}
use Rattle.std.specs.Prelude.{string_bytes}
use Rattle.std.specs.Char.{IsScalar}
use Rattle.std.specs.Str.{chars}
use Rattle.std.proofs.lemmas.Str.{IsUtf8-string_bytes, chars-append}
use Rattle.std.proofs.lemmas.Bool.{eq-eqb, ne_eqb}
use Rattle.indicatif_text.proofs.DraftLemmas.{chars_one}
use Rattle.indicatif_term.proofs.engine.recutting.push_guarded.Goals as goal

spelled : chars (0x1B ∷ 0x1B ∷ 0x5B ∷ 0x6D ∷ []) ≡ 0x1B ∷ 0x1B ∷ 0x5B ∷ 0x6D ∷ []
unfolding chars
spelled = refl

pub returns-in_ok-push_str-clause-pushed : goal.returns-in_ok-push_str-clause-pushed
returns-in_ok-push_str-clause-pushed c =
    let old = string_bytes c.args.text.now in
    ap chars c.in_ok-push_str.ensures.bytes ∙ chars-append old _ (IsUtf8-string_bytes c.args.text.now) ∙ ap (λ cs. chars old ++ cs) spelled
    ∙ ap (λ cs. chars old ++ cs) (rw (eq-eqb c.args.c 0x1B c.if-c-eq27.true) refl)

pub returns-in_ok-push-clause-pushed : goal.returns-in_ok-push-clause-pushed
returns-in_ok-push-clause-pushed c =
    let old = string_bytes c.args.text.now in
    let scalar : IsScalar c.args.c = search rules in
    ap chars c.in_ok-push.ensures.bytes ∙ chars-append old _ (IsUtf8-string_bytes c.args.text.now) ∙ ap (λ cs. chars old ++ cs) (chars_one c.args.c scalar)
    ∙ ap (λ cs. chars old ++ cs) (rw (ne_eqb c.args.c 0x1B c.if-c-eq27.false) refl)
