use Rattle.std.proofs.Common.{◌≡◌, ◌++◌, [], ◌-◌, ◌/◌, ◌∙◌, ap, sym, length, string_bytes}
use Rattle.std.specs.Prelude.{unwrap_or}
use Rattle.indicatif_text.specs.StyleWords.{opening_of, sequence_of}
use Rattle.indicatif_bar.proofs.LayoutLemmas.{rest_text, last_sequence, rest_is, bar_parts, styled_opened, styled_alone, grown, grown_three}
use Rattle.indicatif_bar.specs.Styles.{BarStyle}
use Rattle.indicatif_bar.specs.Keys.{bar_fraction}
use Rattle.indicatif_bar.specs.Layout.{cluster, text_columns, bar_text}
use Rattle.indicatif_bar.specs.Inside.Bars.{begun_text}
use Rattle.indicatif_bar.specs.Inside.Steps.{placeholder_layout}
use Rattle.indicatif_bar.specs.Inside.Texts.{texts_in}
use Rattle.indicatif_bar.proofs.style.ProgressStyle.push_bar.Goals as goal

pub returns-then-some : goal.returns-then-some
returns-then-some g c =
    let texts = texts_in c.self.inside.clusters in
    let colours = c.self.inside.colours in
    let numbers = unwrap_or (placeholder_layout c.args.placeholder.now).alternative [] in
    let done = c.fraction.result in
    let cells = c.args.width / c.self.inside.cell_columns in
    let cells_are : cells ≡ c.args.width / text_columns (cluster texts 0) = ap (λ n. c.args.width / n) c.self.invariant.5 in
    let last : c.at.result.now ≡ cluster texts (length texts - 1) = c.at.ensures ∙ ap (λ n. cluster texts (n - 1)) c.len.ensures in
    let rest = rest_text texts done cells in
    let old = string_bytes c.args.out.now in
    let pushed : string_bytes c.push_times.new.out ≡ string_bytes c.open_style.new.out ++ rest = c.in_ok-push_times.ensures
    ∙ ap (λ t. string_bytes c.open_style.new.out ++ t) (rest_is texts done cells c.in_ok-left.left _ c.in_ok-left.ensures.left last) in
    let closed = grown_three _ _ _ _ (opening_of colours numbers) rest (sequence_of 0) c.in_ok-some.ensures.bytes pushed
    (c.in_ok-push_str.ensures.bytes ∙ ap (λ t. string_bytes c.push_times.new.out ++ t) last_sequence) in
    let style = styled_opened colours numbers rest (sym c.in_ok-some.ensures.some ∙ c.if-some.true) in
    grown _ _ _ (begun_text texts done cells) (opening_of colours numbers ++ rest ++ sequence_of 0) c.in_ok-left.ensures.text closed
    ∙ ap (λ t. old ++ (begun_text texts done cells ++ t)) (sym style)
    ∙ ap (λ t. old ++ t) (sym (bar_parts texts colours numbers done c.args.width cells cells_are))
    ∙ ap (λ f. old ++ bar_text texts colours numbers f c.args.width) c.fraction.ensures.fraction
    ∙ ap (λ (s : BarStyle g.row.K.Denot). old ++ bar_text s.clusters s.colours numbers (bar_fraction c.args.state.now c.args.bar) c.args.width) c.self.view_is

pub returns : goal.returns
returns g c =
    let texts = texts_in c.self.inside.clusters in
    let colours = c.self.inside.colours in
    let numbers = unwrap_or (placeholder_layout c.args.placeholder.now).alternative [] in
    let done = c.fraction.result in
    let cells = c.args.width / c.self.inside.cell_columns in
    let cells_are : cells ≡ c.args.width / text_columns (cluster texts 0) = ap (λ n. c.args.width / n) c.self.invariant.5 in
    let last : c.at.result.now ≡ cluster texts (length texts - 1) = c.at.ensures ∙ ap (λ n. cluster texts (n - 1)) c.len.ensures in
    let rest = rest_text texts done cells in
    let old = string_bytes c.args.out.now in
    let pushed : string_bytes c.push_times.new.out ≡ string_bytes c.open_style.new.out ++ rest = c.in_ok-push_times.ensures
    ∙ ap (λ t. string_bytes c.open_style.new.out ++ t) (rest_is texts done cells c.in_ok-left.left _ c.in_ok-left.ensures.left last) in
    let style = styled_alone colours numbers rest (sym c.in_ok-some.ensures.some ∙ c.if-some.false) in
    grown _ _ _ (begun_text texts done cells) (opening_of colours numbers ++ rest) c.in_ok-left.ensures.text
    (grown _ _ _ (opening_of colours numbers) rest c.in_ok-some.ensures.bytes pushed)
    ∙ ap (λ t. old ++ (begun_text texts done cells ++ t)) (sym style)
    ∙ ap (λ t. old ++ t) (sym (bar_parts texts colours numbers done c.args.width cells cells_are))
    ∙ ap (λ f. old ++ bar_text texts colours numbers f c.args.width) c.fraction.ensures.fraction
    ∙ ap (λ (s : BarStyle g.row.K.Denot). old ++ bar_text s.clusters s.colours numbers (bar_fraction c.args.state.now c.args.bar) c.args.width) c.self.view_is
