use Rattle.std.proofs.Common.{refl, chars}
use Rattle.std.specs.Prelude.{take_while}
use Rattle.indicatif_text.specs.Template.{is_width_char}
use Rattle.indicatif_text.proofs.MixLemmas.{mix_begins, mix_more, past_more}
use Rattle.indicatif_text.proofs.template.reading.read_mix.Goals as goal

pub loop-c-init : goal.loop-c-init
loop-c-init c = record {
  utf8 = c.utf8.text;
  mix = mix_begins c.args.state (take_while is_width_char (chars c.args.text.now));
  past = refl;
}

pub loop-c-preserved : goal.loop-c-preserved
loop-c-preserved c =
    let i = c.loop-c.invariant in
    let taken = c.in-Some-with.ensures in
    record {
      utf8 = c.in-Some.ensures.utf8;
      mix =
          mix_more c.args.state (chars c.args.text.now) c.loop-c.mix (chars c.loop-c.rest.now) i.mix i.past c.in-Some.c (chars c.in-Some.after.now) c.in-Some.ensures.first
          taken.0 c.in-Some-with.longer taken.1;
      past =
          past_more c.args.state (chars c.args.text.now) c.loop-c.mix (chars c.loop-c.rest.now) i.mix i.past c.in-Some.c (chars c.in-Some.after.now) c.in-Some.ensures.first
          taken.0;
    }
