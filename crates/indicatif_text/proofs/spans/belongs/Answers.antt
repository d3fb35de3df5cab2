use Rattle.std.proofs.Common.{◌<◌, ◌∙◌, ap, get_or}
use Rattle.std.specs.Prelude.{◌==◌, bit_and}
use Rattle.indicatif_text.specs.declared.spans.TheConstants.{ENDS}
use Rattle.indicatif_text.proofs.EndLemmas.{ends_right}
use Rattle.indicatif_text.proofs.spans.belongs.Goals as goal

pub returns : goal.returns
returns c =
    let small : c.args.byte < 256 = c.ranges.byte.fits in
    ap (λ i. bit_and (get_or ENDS.now i 0) c.bit_of.result == 0) c.from.ensures
    ∙ ap (λ m. bit_and (get_or ENDS.now c.args.byte 0) m == 0) c.bit_of.ensures
    ∙ ends_right c.args.run c.args.byte small
