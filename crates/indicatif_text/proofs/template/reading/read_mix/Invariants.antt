use Rattle.std.proofs.Common.{◌≡◌, chars, length}
use Rattle.std.specs.Prelude.{take_while}
use denote.Text.{Utf8}
use denote.Shadow.{shadow}
use Rattle.indicatif_text.specs.Inside.Reading.{IsMixBefore}
use Rattle.indicatif_text.specs.Template.{is_width_char, after_run}
use Rattle.indicatif_text.proofs.template.reading.read_mix.Given as goal

abbrev pub invariant-loop-c : goal.invariant-loop-c
invariant-loop-c l = record {
  utf8 : shadow (Utf8 l.rest);
  mix : IsMixBefore l.fn.state (take_while is_width_char (chars l.text)) l.mix (take_while is_width_char (chars l.rest));
  past : after_run is_width_char (chars l.text) ≡ after_run is_width_char (chars l.rest);
}

abbrev pub decreases-loop-c : goal.decreases-loop-c
decreases-loop-c l = length (chars l.rest)
