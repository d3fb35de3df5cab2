use Rattle.std.proofs.Common.{◌≡◌, ◌++◌, ◌∙◌, sym, ap, subst, string_bytes}
use Rattle.std.specs.List.{list_any}
use Rattle.indicatif_bar.specs.Styles.{BarStyle, is_newline, wide_text, with_fillers_as}
use Rattle.indicatif_bar.specs.StyleLaws.{AreTaken}
use Rattle.indicatif_bar.specs.Inside.Steps.{placeholder_layout, wide_found}
use Rattle.indicatif_bar.proofs.OneLineLemmas.{with_bar, bar_in_line}
use Rattle.indicatif_bar.proofs.style.ProgressStyle.fill_wide.Goals as goal

pub invariant_of-result : goal.invariant_of-result
invariant_of-result g c =
    let style = c.args.self.now in
    let state = c.args.state.now in
    let width = c.args.width in
    let line = c.args.text.now in
    let bar = c.in-Bar.field-0 in
    let layout = placeholder_layout c.in-Bar.field-1.now in
    let taken = subst (λ (s : BarStyle g.row.K.Denot). AreTaken s.clusters) c.self.view_is c.self.invariant.4 in
    let shown : string_bytes c.push_filled.new.out ≡ with_bar style state width line bar layout =
    c.in_ok-push_filled.ensures width c.of-gap.ensures.columns c.of-gap.ensures.is_last
    ∙ ap (λ t. t ++ with_fillers_as (wide_text style state width line (wide_found c.args.wide)) line) c.text-filled.ensures
    ∙ ap (λ w. with_fillers_as (wide_text style state width line (wide_found w)) line) c.in-Bar.is in
    record { one_line = λ one. ap (list_any is_newline) shown ∙ bar_in_line style state width line bar layout taken (sym c.of-gap.ensures.has_break ∙ one) }
