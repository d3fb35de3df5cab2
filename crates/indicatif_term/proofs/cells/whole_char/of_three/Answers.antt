use Rattle.std.proofs.Common.{◌≡◌, ◌∙◌, ◌+◌, ◌-◌, ◌*◌, ap, arith}
use Rattle.std.proofs.Math.Utf8.{scalar}
use Rattle.indicatif_term.proofs.WholeCharLemmas.{whole_of_three}
use Rattle.indicatif_term.proofs.cells.whole_char.of_three.Goals as goal

pub returns : goal.returns
returns c =
    let e = c.in_ok-character.ensures.value in
    let code : c.in_ok-character.character ≡ (c.args.first - 224) * 4096 + (c.args.rest.0 - 128) * 64 + (c.args.rest.1 - 128) =
    omega (arith, e.1, c.from-high.ensures, c.from.ensures, c.from-2.ensures) in
    whole_of_three c.in_ok-character.character c.args.first c.args.rest.0 c.args.rest.1 (ap scalar e.1 ∙ e.0) code
    c.requires.first.0 c.requires.first.1 c.if-second-lt128.false c.if-second-gt191.false c.if-third-lt128.false c.if-third-gt191.false
