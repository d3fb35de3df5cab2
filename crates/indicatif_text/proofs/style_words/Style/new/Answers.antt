use Rattle.std.proofs.Common.{refl}
use Rattle.indicatif_text.specs.StyleWords.{numbers_of}
use Rattle.indicatif_text.proofs.style_words.Style.new.Goals as goal

pub returns : goal.returns
unfolding numbers_of
returns c = refl
