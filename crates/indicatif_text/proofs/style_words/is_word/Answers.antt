use Rattle.std.proofs.Common.{◌∙◌}
use Rattle.indicatif_text.proofs.StyleLemmas.{same_word}
use Rattle.indicatif_text.proofs.style_words.is_word.Goals as goal

pub returns : goal.returns
returns c = c.eq.ensures ∙ same_word c.args.word.now c.args.name.now c.utf8.word c.requires
