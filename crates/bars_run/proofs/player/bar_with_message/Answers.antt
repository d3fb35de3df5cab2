use Rattle.std.proofs.Common.{◌∙◌, ◌≡◌, ap, sym, None}
use Rattle.std.specs.Prelude.{codes}
use Rattle.std.specs.Str.{chars}
use Rattle.indicatif_bar.specs.declared.style.builders.TheConstants.{TICKS}
use Rattle.indicatif_bar.specs.declared.tracker.NoTracker.{NoTracker}
use Rattle.indicatif_bar.specs.Builders.{first_style}
use Rattle.indicatif_bar.specs.Styles.{BarStyle}
use Rattle.indicatif_bar.specs.Commands.{BarRecord, new_bar}
use Rattle.bars_run.proofs.PlayLemmas.{message_parts, message_read}
use Rattle.bars_run.proofs.player.bar_with_message.Goals as goal

pub returns : goal.returns
unfolding chars
returns c =
    let parts = c.template_or_refused.ensures.one_list (codes "{msg}") c.in_ok-style.style.parts message_parts c.in_ok-style.ensures.parts message_read in
    let style = c.in_ok-style.ensures.style ∙ ap (first_style {K = NoTracker} TICKS.now) parts in
    let bar = c.in_ok-bar.ensures.bar ∙ ap (λ (s : BarStyle NoTracker). new_bar s None 0) style in
    ap (λ o. o.0) c.in_ok-with_message.ensures.done ∙ ap (λ (b : BarRecord NoTracker). record b { progress = record b.progress { message = c.args.text.now } }) bar
