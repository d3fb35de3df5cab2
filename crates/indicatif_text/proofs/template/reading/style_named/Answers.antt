use Rattle.std.proofs.Common.{Some, sym, ap, ◌∙◌, chars}
use Rattle.std.specs.Prelude.{take_while}
use Rattle.indicatif_text.specs.Inside.Spans.{in_words}
use Rattle.indicatif_text.specs.Template.{style_named}
use Rattle.indicatif_text.proofs.PrefixLemmas.{nothing_before, something_before}
use Rattle.indicatif_text.proofs.OptionLemmas.{some_style}
use Rattle.indicatif_text.proofs.template.reading.style_named.Goals as goal

pub returns-then-after-text-clause-style : goal.returns-then-after-text-clause-style
returns-then-after-text-clause-style c =
    ap style_named (sym (nothing_before (in_words c.args.words) c.args.text.now c.read.result.1.now c.utf8.text c.read.ensures.utf8 c.read.ensures.rest c.if-after-text.true))

pub returns-clause-style : goal.returns-clause-style
returns-clause-style c =
    ap Some c.read.ensures.style
    ∙ some_style (take_while (in_words c.args.words) (chars c.args.text.now))
    (something_before (in_words c.args.words) c.args.text.now c.read.result.1.now c.utf8.text c.read.ensures.utf8 c.read.ensures.rest c.if-after-text.false)
