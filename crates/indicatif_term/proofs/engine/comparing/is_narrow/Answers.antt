use Rattle.std.proofs.Common.{arith, ◌≤◌}
use Rattle.indicatif_text.proofs.WidthLemmas.{plain_width}
use Rattle.indicatif_term.proofs.engine.comparing.is_narrow.Goals as goal

pub returns-then-c-le126 : goal.returns-then-c-le126
returns-then-c-le126 c = λ _.
    let low : 0x20 ≤ c.args.c = omega (arith, c.if-c-ge32.true) in
    let high : c.args.c ≤ 0x7E = omega (arith, c.if-c-le126.true) in
    plain_width c.args.c (low, high)
