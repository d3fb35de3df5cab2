use Rattle.std.proofs.Common.{◌∙◌}
use Rattle.std.specs.Prelude.{chars, option_map}
use Rattle.indicatif_text.specs.StyleWords.{numbers_of}
use Rattle.indicatif_text.specs.Inside.Reading.{layout_of}
use Rattle.indicatif_text.proofs.OptionLemmas.{style_open, style_closed, style_slashed}
use Rattle.indicatif_text.proofs.template.reading.with_style.Goals as goal

pub returns-in-None-clause-value : goal.returns-in-None-clause-value
returns-in-None-clause-value c =
    style_open (layout_of c.args.options.now) (chars c.args.text.now) (chars c.style_named-style.result.1.now) c.style_named-style.ensures.rest c.in-None.ensures.first

pub returns-then-end-eq125-clause-value : goal.returns-then-end-eq125-clause-value
returns-then-end-eq125-clause-value c =
    style_closed (layout_of c.args.options.now) (chars c.args.text.now) (chars c.style_named-style.result.1.now) c.style_named-style.ensures.rest
    (chars c.in-Some.rest.now) c.in-Some.end (option_map numbers_of c.style_named-style.result.0) c.in-Some.ensures.first c.style_named-style.ensures.style c.if-end-eq125.true

pub returns-else-end-eq125-clause-value : goal.returns-else-end-eq125-clause-value
returns-else-end-eq125-clause-value c =
    style_slashed (layout_of c.args.options.now) (chars c.args.text.now) (chars c.style_named-style.result.1.now) c.style_named-style.ensures.rest
    (chars c.in-Some.rest.now) c.in-Some.end (option_map numbers_of c.style_named-style.result.0) c.in-Some.ensures.first c.style_named-style.ensures.style c.if-end-eq125.false
    ∙ c.with_alternative.ensures.value
