use Rattle.std.proofs.Common.{◌≡◌, ◌+◌, ◌/◌, ◌%◌, ◌^◌, ◌<◌, ◌≤◌, ◌++◌, ◌∷◌, [], min, drop, append_assoc, sym, ◌∙◌, ap, subst, string_bytes, OnOk, decimal, arith}
use Rattle.std.proofs.lemmas.Nat.{mod_below}
use Rattle.indicatif_bar.specs.Keys.{percent_text}
use Rattle.indicatif_bar.proofs.KeyTextLemmas.{percent_whole, percent_decimals}
use Rattle.indicatif_bar.proofs.style.keys.push_percent.Goals as goal

pub returns-then-places-eq0-clause-text : goal.returns-then-places-eq0-clause-text
returns-then-places-eq0-clause-text c =
    subst (λ t. OnOk c.push_number.result (string_bytes c.push_number.new.out ≡ string_bytes c.args.out.now ++ t))
    (ap decimal c.hundredths.ensures ∙ percent_whole c.args.done ∙ ap (λ k. percent_text c.args.done (min k 16)) (sym c.if-places-eq0.true)) c.push_number.ensures.text

pub returns-clause-text : goal.returns-clause-text
returns-clause-text c =
    let old = string_bytes c.args.out.now in
    let unit = c.power_of_ten-unit.result in
    let n = c.hundredths-scaled.result in
    let front = decimal (n / unit) in
    let behind = drop 1 (decimal (unit + n % unit)) in
    let some : 0 < min c.args.places 16 = omega (arith, c.if-places-eq0.false) in
    let most : min c.args.places 16 ≤ 16 = omega arith in
    let text = percent_decimals c.args.done (min c.args.places 16) unit n some most (c.power_of_ten-unit.ensures.power ∙ ap (λ k. 10 ^ k) c.min.ensures) c.hundredths-scaled.ensures in
    let pushed : string_bytes c.push_str.new.self ++ behind ≡ old ++ percent_text c.args.done (min c.args.places 16) =
    ap (λ t. t ++ behind) (c.in_ok-push_str.ensures.bytes ∙ ap (λ t. t ++ 0x2E ∷ []) c.in_ok-push_number.ensures.text)
    ∙ append_assoc (old ++ front) (0x2E ∷ []) behind ∙ append_assoc old front (0x2E ∷ behind) ∙ ap (λ t. old ++ t) text in
    subst (λ t. OnOk c.push_behind_first.result (string_bytes c.push_behind_first.new.out ≡ t)) pushed c.push_behind_first.ensures.text

pub overflow_add-unit : goal.overflow_add-unit
overflow_add-unit c =
    omega (arith, mod_below c.hundredths-scaled.result c.power_of_ten-unit.result c.power_of_ten-unit.ensures.some, c.power_of_ten-unit.ensures.small)
