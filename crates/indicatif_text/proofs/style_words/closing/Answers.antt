use Rattle.std.proofs.Common.{◌∙◌, sym}
use Rattle.indicatif_text.proofs.StyleLemmas.{closing_some}
use Rattle.indicatif_text.proofs.style_words.closing.Goals as goal

pub returns-else-is_empty : goal.returns-else-is_empty
returns-else-is_empty c = closing_some c.args.opening.now (sym c.is_empty.ensures ∙ c.if-is_empty.false)
