use Rattle.std.proofs.Common.{◌≡◌, ◌++◌, [], Bool, true, false, refl, append-nil, ◌∙◌, sym, ap, length, string_bytes}
use Rattle.std.specs.Prelude.{option_map, unwrap_or, nat_lt}
use Rattle.indicatif_text.specs.StyleWords.{opening_of, numbers_of}
use Rattle.indicatif_bar.proofs.style.steps.open_style.Goals as goal

nothing_opens : (colours : Bool) → opening_of colours [] ≡ []
nothing_opens true = refl
nothing_opens false = refl

pub returns-in-None-clause-bytes : goal.returns-in-None-clause-bytes
returns-in-None-clause-bytes c =
    let old = string_bytes c.args.out.now in
    sym (append-nil old)
    ∙ ap (λ t. old ++ t) (sym (nothing_opens c.args.colours))
    ∙ ap (λ style. old ++ opening_of c.args.colours (unwrap_or (option_map numbers_of style) [])) (sym c.in-None.is)

pub returns-in-None-clause-some : goal.returns-in-None-clause-some
returns-in-None-clause-some c =
    ap (λ t. nat_lt 0 (length t)) (sym (nothing_opens c.args.colours))
    ∙ ap (λ style. nat_lt 0 (length (opening_of c.args.colours (unwrap_or (option_map numbers_of style) [])))) (sym c.in-None.is)
