use Rattle.std.proofs.Common.{◌∷◌, ◌∙◌}
use Rattle.std.specs.Prelude.{chars}
use Rattle.indicatif_text.specs.Inside.Reading.{layout_of}
use Rattle.indicatif_text.proofs.OptionLemmas.{width_open, width_closed, width_styled, width_closed_wide, width_styled_wide, width_unexpected}
use Rattle.indicatif_text.proofs.template.reading.with_width.Goals as goal
use Rattle.indicatif_text.proofs.template.reading.with_width.Goals.{else-next-ne125-via-then-next-ne125+else-next-ne46, else-next-ne125-via-else-next-ne125}

pub returns-in_default : goal.returns-in_default
returns-in_default c =
    width_open (layout_of c.args.options.now) c.args.state (chars c.args.text.now) (chars c.read_mix.result.1.now) c.read_mix.result.0
    c.read_mix.ensures.mix c.read_mix.ensures.rest c.in_default.ensures.first

pub returns-then-next-ne46 : goal.returns-then-next-ne46
returns-then-next-ne46 c = (
  c.in-Some.next ∷ chars c.in-Some.rest.now,
  width_unexpected (layout_of c.args.options.now) c.args.state (chars c.args.text.now) (chars c.read_mix.result.1.now) c.read_mix.result.0
      c.read_mix.ensures.mix c.read_mix.ensures.rest c.in-Some.next (chars c.in-Some.rest.now) c.in-Some.ensures.first c.if-next-ne125.true c.if-next-ne46.true,
)

pub returns-then-mix : goal.returns-then-mix
returns-then-mix c = (
  c.in-Some.next ∷ chars c.in-Some.rest.now,
  elim c.else-next-ne125.branch [
    | else-next-ne125-via-then-next-ne125+else-next-ne46 w ↦
        width_styled_wide (layout_of c.args.options.now) c.args.state (chars c.args.text.now) (chars c.read_mix.result.1.now) c.read_mix.result.0
        c.read_mix.ensures.mix c.read_mix.ensures.rest c.in-Some.next (chars c.in-Some.rest.now) c.in-Some.ensures.first c.if-mix.true w.if-next-ne46.false
    | else-next-ne125-via-else-next-ne125 w ↦
        width_closed_wide (layout_of c.args.options.now) c.args.state (chars c.args.text.now) (chars c.read_mix.result.1.now) c.read_mix.result.0
        c.read_mix.ensures.mix c.read_mix.ensures.rest c.in-Some.next (chars c.in-Some.rest.now) c.in-Some.ensures.first c.if-mix.true w.if-next-ne125.false
  ],
)

pub returns-then-next-eq125 : goal.returns-then-next-eq125
returns-then-next-eq125 c =
    width_closed (layout_of c.args.options.now) c.args.state (chars c.args.text.now) (chars c.read_mix.result.1.now) c.read_mix.result.0
    c.read_mix.ensures.mix c.read_mix.ensures.rest c.in-Some.next (chars c.in-Some.rest.now) c.in-Some.ensures.first c.if-mix.false c.if-next-eq125.true

pub returns : goal.returns
returns c = elim c.else-next-ne125.branch [
  | else-next-ne125-via-then-next-ne125+else-next-ne46 w ↦
      width_styled (layout_of c.args.options.now) c.args.state (chars c.args.text.now) (chars c.read_mix.result.1.now) c.read_mix.result.0
      c.read_mix.ensures.mix c.read_mix.ensures.rest c.in-Some.next (chars c.in-Some.rest.now) c.in-Some.ensures.first c.if-mix.false w.if-next-ne46.false
      ∙ c.with_style.ensures.value
  | else-next-ne125-via-else-next-ne125 w ↦ absurd (c.if-next-eq125.false w.if-next-ne125.false)
]
