use Rattle.std.proofs.Common.{◌++◌, ◌∙◌, sym, ap, true, if◌then◌else◌, string_bytes}
use Rattle.std.specs.Str.{trim_end}
use Rattle.indicatif_bar.specs.Layout.{padded}
use Rattle.indicatif_bar.specs.Keys.{shown_text}
use Rattle.indicatif_bar.specs.Styles.{columns_left, wide_text}
use Rattle.indicatif_bar.specs.Inside.Steps.{wide_found}
use Rattle.indicatif_bar.proofs.style.ProgressStyle.push_wide.Goals as goal

pub returns-in_ok-push_in_gap-in-Text : goal.returns-in_ok-push_in_gap-in-Text
unfolding trim_end padded
returns-in_ok-push_in_gap-in-Text g c columns text at last =
    let old = string_bytes c.args.out.now in
    let align = c.in-Text.placeholder.now.align in
    let shown = shown_text c.args.self.now.tick_strings c.args.state.now c.in-Text.key in
    c.in_ok-push_in_gap-in-Text.ensures
    ∙ ap (λ t. old ++ (if c.args.gap.is_last then trim_end (padded t c.args.gap.columns align true) else padded t c.args.gap.columns align true)) c.shown_text.ensures
    ∙ ap (λ k. old ++ (if c.args.gap.is_last then trim_end (padded shown k align true) else padded shown k align true)) at
    ∙ ap (λ b. old ++ (if b then trim_end (padded shown (columns_left columns text) align true) else padded shown (columns_left columns text) align true)) last
    ∙ ap (λ w. old ++ wide_text c.args.self.now c.args.state.now columns text (wide_found w)) (sym c.in-Text.is)
