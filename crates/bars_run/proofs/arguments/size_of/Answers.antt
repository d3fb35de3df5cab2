use Rattle.std.proofs.Common.{◌∙◌, sym}
use Rattle.bars_run.proofs.WordLemmas.{parsed}
use Rattle.bars_run.proofs.arguments.size_of.Goals as goal

pub returns : goal.returns
returns c = c.ok.ensures.value ∙ parsed 16 c.args.text.now c.parse.result c.parse.ensures.value.0 (sym c.is_digits.ensures ∙ c.if-not-is_digits.false)
