use Rattle.std.proofs.Common.{◌∙◌, ◌+◌, ◌-◌, ◌*◌, ap, sym}
use Rattle.indicatif_text.proofs.MixLemmas.{takes_exclamation, takes_too_much, takes_digit, width_exclamation, width_digit}
use Rattle.indicatif_text.proofs.template.reading.Mix.with.Goals as goal

pub returns-then-c-eq33 : goal.returns-then-c-eq33
returns-then-c-eq33 c = (width_exclamation c.args.c c.if-c-eq33.true, takes_exclamation c.args.self c.args.c c.if-c-eq33.true)

pub returns-then-number-gt65535 : goal.returns-then-number-gt65535
returns-then-number-gt65535 c =
    let digit = sym c.is_ascii_digit.ensures.value ∙ c.if-not-is_ascii_digit.false in
    let n = c.from.result * 10 + (c.args.c - 48) in
    (width_digit c.args.c digit, takes_too_much c.args.self c.args.c n digit c.if-c-eq33.false (ap (λ x. x * 10 + (c.args.c - 48)) (c.from.ensures ∙ c.unwrap_or.ensures)) c.if-number-gt65535.true)

pub returns : goal.returns
returns c =
    let digit = sym c.is_ascii_digit.ensures.value ∙ c.if-not-is_ascii_digit.false in
    let n = c.from.result * 10 + (c.args.c - 48) in
    (width_digit c.args.c digit, takes_digit c.args.self c.args.c n digit c.if-c-eq33.false (ap (λ x. x * 10 + (c.args.c - 48)) (c.from.ensures ∙ c.unwrap_or.ensures)) c.if-number-gt65535.false)
