use Rattle.std.specs.Prelude.{chars, option_map}
use Rattle.indicatif_text.specs.StyleWords.{numbers_of}
use Rattle.indicatif_text.specs.Inside.Reading.{layout_of}
use Rattle.indicatif_text.proofs.OptionLemmas.{alternative_open, alternative_closed}
use Rattle.indicatif_text.proofs.template.reading.with_alternative.Goals as goal

pub returns-in-None-clause-value : goal.returns-in-None-clause-value
returns-in-None-clause-value c =
    alternative_open (layout_of c.args.options.now) (chars c.args.text.now) (chars c.style_named-alternative.result.1.now) c.style_named-alternative.ensures.rest c.in-None.ensures.first

pub returns-in-Some-clause-value : goal.returns-in-Some-clause-value
returns-in-Some-clause-value c =
    alternative_closed (layout_of c.args.options.now) (chars c.args.text.now) (chars c.style_named-alternative.result.1.now) c.style_named-alternative.ensures.rest
    (chars c.in-Some.rest.now) c.in-Some._brace (option_map numbers_of c.style_named-alternative.result.0) c.in-Some.ensures.first c.style_named-alternative.ensures.style
