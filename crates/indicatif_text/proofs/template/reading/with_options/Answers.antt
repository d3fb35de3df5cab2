use Rattle.std.proofs.Common.{◌∙◌, sym}
use Rattle.std.specs.Prelude.{chars}
use Rattle.indicatif_text.proofs.OptionLemmas.{options_none, options_styled, options_plain, options_aligned}
use Rattle.indicatif_text.proofs.template.reading.with_options.Goals as goal

pub returns-in-None : goal.returns-in-None
returns-in-None c = options_none (chars c.args.text.now) c.in-None.ensures.first

pub returns-in-None-alignment_of : goal.returns-in-None-alignment_of
returns-in-None-alignment_of c =
    options_plain (chars c.args.text.now) c.in-Some.first (chars c.in-Some.rest.now) c.in-Some.ensures.first (sym c.in-None-alignment_of.ensures) _ _ c.with_width.ensures

pub returns-in-Some-alignment_of : goal.returns-in-Some-alignment_of
returns-in-Some-alignment_of c =
    options_aligned (chars c.args.text.now) c.in-Some.first (chars c.in-Some.rest.now) c.in-Some.ensures.first c.in-Some-alignment_of.align (sym c.in-Some-alignment_of.ensures) _ _
    c.with_width-in-Some-alignment_of.ensures

pub returns-in-Some-eq46-default : goal.returns-in-Some-eq46-default
returns-in-Some-eq46-default c =
    let dot = c.in-Some-eq46-default in
    options_styled (chars c.args.text.now) dot.field-0-0 (chars dot.rest.now) dot.ensures.first dot.field-0-0-test ∙ c.with_style.ensures.value
