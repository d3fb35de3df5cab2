use Rattle.std.proofs.Common.{◌≡◌, ◌++◌, ◌∷◌, [], ap, sym, ◌∙◌, length-take-le}
use Rattle.indicatif_text.specs.Inside.Quotients.{raised, below}
use Rattle.indicatif_text.specs.Format.{last_digits, human_count, after_point}
use Rattle.indicatif_text.proofs.QuotientLemmas.{IsAscii-last_digits}
use Rattle.indicatif_text.proofs.format.quotients.four_decimals_text.Goals as goal

pub joined-requires-clause-ascii : goal.joined-requires-clause-ascii
joined-requires-clause-ascii c =
    let found = c.of-rounded.result in
    let filled : c.fill_decimals.new.out ≡ last_digits found.shown (raised found.up (below c.args.num c.args.den found.shown)) =
    c.fill_decimals.ensures ∙ ap (λ n. last_digits n (raised found.up (below c.args.num c.args.den n))) (length-take-le found.shown (0 ∷ 0 ∷ 0 ∷ 0 ∷ []) c.of-rounded.ensures.shown) in
    rw filled (IsAscii-last_digits found.shown (raised found.up (below c.args.num c.args.den found.shown)))

pub returns : goal.returns
returns c =
    let found = c.of-rounded.result in
    let filled : c.fill_decimals.new.out ≡ last_digits found.shown (raised found.up (below c.args.num c.args.den found.shown)) =
    c.fill_decimals.ensures ∙ ap (λ n. last_digits n (raised found.up (below c.args.num c.args.den n))) (length-take-le found.shown (0 ∷ 0 ∷ 0 ∷ 0 ∷ []) c.of-rounded.ensures.shown) in
    c.joined.ensures ∙ ap (λ ds. human_count found.whole ++ after_point ds) filled ∙ sym c.of-rounded.ensures.text
