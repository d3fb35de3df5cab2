use Rattle.std.proofs.Common.{◌∙◌, ap, refl, chars}
use Rattle.indicatif_text.specs.declared.spans.Words.TheVariants.{All}
use Rattle.indicatif_text.specs.Inside.Spans.{in_words}
use Rattle.indicatif_text.specs.StyleWords.{style_of}
use Rattle.indicatif_text.proofs.PrefixLemmas.{run_all}
use Rattle.indicatif_text.proofs.style_words.Style.from_dotted_str.Goals as goal

pub returns : goal.returns
returns c = c.read.ensures.style ∙ ap style_of (run_all (in_words All) (λ _. refl) (chars c.args.text.now))
