use Rattle.std.proofs.Common.{◌≡◌, false, ◌∙◌, sym, ap, string_bytes}
use Rattle.std.specs.Prelude.{option_map}
use Rattle.std.specs.List.{list_any}
use Rattle.indicatif_bar.specs.Styles.{is_filler, wide_text, filled}
use Rattle.indicatif_bar.specs.Inside.Steps.{wide_found}
use Rattle.indicatif_bar.proofs.FillingLemmas.{no_fillers}
use Rattle.indicatif_bar.proofs.style.ProgressStyle.fill.Goals as goal

pub returns-then-not-has_filler : goal.returns-then-not-has_filler
returns-then-not-has_filler g c =
    let text = string_bytes c.args.line.text in
    let unfilled : list_any is_filler text ≡ false = ap (list_any is_filler) (sym c.as_str.ensures.value) ∙ sym c.has_filler.ensures ∙ c.if-not-has_filler.true in
    let style = c.args.self.now in
    let state = c.args.state.now in
    c.of-then-not-has_filler.ensures
    ∙ sym (no_fillers (wide_text style state c.args.width text (wide_found c.in-Some.wide)) text unfilled)
    ∙ ap (λ w. filled style state c.args.width (option_map wide_found w) text) (sym c.in-Some.is)
