use Rattle.std.proofs.Common.{◌++◌, [], ◌∙◌, sym, ap, string_bytes}
use Rattle.std.specs.Prelude.{unwrap_or}
use Rattle.std.specs.Option.{option_map_or}
use Rattle.indicatif_text.specs.StyleWords.{styled, opening_of, sequence_of}
use Rattle.indicatif_bar.proofs.LayoutLemmas.{last_sequence}
use Rattle.indicatif_bar.specs.Layout.{padded}
use Rattle.indicatif_bar.specs.Inside.Steps.{source_text, placeholder_layout}
use Rattle.indicatif_bar.proofs.LayoutLemmas.{styled_opened, grown_three}
use Rattle.indicatif_bar.proofs.style.ProgressStyle.push_styled.Goals as goal

pub returns-then-some : goal.returns-then-some
returns-then-some g c =
    let placeholder = c.args.placeholder.now in
    let old = string_bytes c.args.out.now in
    let numbers = unwrap_or (placeholder_layout placeholder).style [] in
    let colours = c.self.inside.colours in
    let text = option_map_or (λ width. padded
    (source_text g.K.Tracks.means c.args.self.now c.args.state.now c.args.now (placeholder_layout placeholder) placeholder.source) width placeholder.align
    placeholder.truncate) placeholder.width
    (source_text g.K.Tracks.means c.args.self.now c.args.state.now c.args.now (placeholder_layout placeholder) placeholder.source) in
    grown_three _ _ _ _ (opening_of colours numbers) text (sequence_of 0) c.in_ok-some.ensures.bytes c.in_ok-push_sized.ensures
    (c.in_ok-push_str.ensures.bytes ∙ ap (λ t. string_bytes c.push_sized.new.out ++ t) last_sequence)
    ∙ ap (λ t. old ++ t) (sym (styled_opened colours numbers text (sym c.in_ok-some.ensures.some ∙ c.if-some.true)))
    ∙ ap (λ style. old ++ styled style.colours (unwrap_or (placeholder_layout placeholder).style []) text) c.self.view_is
