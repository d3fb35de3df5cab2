use Rattle.std.proofs.Common.{◌∙◌, ◌^◌, sym, ap, Some, None, if◌then◌else◌}
use Rattle.bars_run.specs.Arguments.{number_below}
use Rattle.bars_run.specs.Commands.{OfBar, action_of}
use Rattle.bars_run.proofs.WordLemmas.{parsed}
use Rattle.bars_run.proofs.commands.numbered.Goals as goal

pub returns : goal.returns
returns c =
    let digits = c.args.digits.now in
    let is = sym c.is_digits.ensures ∙ c.if-not-is_digits.false in
    let number = c.ok.ensures.value ∙ parsed 64 digits c.parse.result c.parse.ensures.value.0 is in
    ap (λ n. Some (OfBar n (action_of c.args.action))) number ∙ sym (ap (λ b. if b then Some (OfBar (number_below (2 ^ 64) digits) (action_of c.args.action)) else None) is)
