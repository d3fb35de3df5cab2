use Rattle.std.proofs.Common.{◌∙◌, ◌++◌, Some, chars, sym, ap}
use Rattle.std.specs.Prelude.{encode_utf8_all}
use Rattle.indicatif_text.specs.Template.{part_of}
use Rattle.indicatif_bar.specs.Tabs.{expanded, has_tab}
use Rattle.indicatif_bar.specs.Inside.Steps.{WritesText, PutsSource, literal_text, placeholder_layout, source_of, names_of, effect_of_part}
use Rattle.indicatif_bar.proofs.TabLemmas.{others_stay}
use Rattle.indicatif_bar.proofs.style.steps.step_of_part.Goals as goal

pub returns-in_ok-push_expanded-in-Literal-clause-step : goal.returns-in_ok-push_expanded-in-Literal-clause-step
unfolding part_of
returns-in_ok-push_expanded-in-Literal-clause-step g c parts at =
    ap WritesText (c.in_ok-push_expanded-in-Literal.ensures ∙ ap (λ t. t ++ expanded c.args.tab c.spelt-literal.result.now) c.new-expanded.ensures.bytes
    ∙ ap (expanded c.args.tab) c.spelt-literal.ensures)
    ∙ ap (λ part. effect_of_part (names_of c.args.keys.now) c.args.tab (part_of part)) (sym c.in-Literal.is)

pub returns-then-not-has_tab-clause-step : goal.returns-then-not-has_tab-clause-step
unfolding part_of
returns-then-not-has_tab-clause-step g c parts at =
    let literal = c.in-Literal.text.now in
    let none = ap has_tab (sym c.spelt-literal.ensures) ∙ sym c.has_tab.ensures ∙ c.if-not-has_tab.true in
    ap (λ part. WritesText (literal_text part)) at
    ∙ ap (λ part. WritesText (literal_text (Some (part_of part)))) c.in-Literal.is
    ∙ ap WritesText (sym (others_stay c.args.tab (encode_utf8_all (chars literal)) none))
    ∙ ap (λ part. effect_of_part (names_of c.args.keys.now) c.args.tab (part_of part)) (sym c.in-Literal.is)

pub returns-in-NewLine-clause-step : goal.returns-in-NewLine-clause-step
unfolding part_of
returns-in-NewLine-clause-step g c parts at = ap (λ part. effect_of_part (names_of c.args.keys.now) c.args.tab (part_of part)) (sym c.in-NewLine.is)

pub returns-in-Placeholder-clause-step : goal.returns-in-Placeholder-clause-step
unfolding part_of
returns-in-Placeholder-clause-step g c parts at =
    ap (λ source. PutsSource source (placeholder_layout (record {
      source = c.source_of.result;
      align = c.in-Placeholder.align;
      width = c.in-Placeholder.width;
      truncate = c.in-Placeholder.truncate;
      style = c.in-Placeholder.style;
      alternative = c.in-Placeholder.alternative;
    })))
    (c.source_of.ensures ∙ ap (source_of (names_of c.args.keys.now)) c.spelt.ensures)
    ∙ ap (λ part. effect_of_part (names_of c.args.keys.now) c.args.tab (part_of part)) (sym c.in-Placeholder.is)
