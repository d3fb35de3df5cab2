use Rattle.std.proofs.Common.{◌≡◌, ◌≤◌, ◌++◌, [], None, true, false, refl, length, arith, append-nil, ◌∙◌, sym, ap, map, drop, string_bytes}
use Rattle.std.specs.Prelude.{option_map, ◌==◌}
use Rattle.std.proofs.Math.ListN.{drop_of_length-le}
use Rattle.indicatif_term.specs.Lines.{line_text}
use Rattle.indicatif_bar.specs.Styles.{lines_with}
use Rattle.indicatif_bar.specs.Inside.Steps.{effect_of, wide_found}
use Rattle.indicatif_bar.proofs.LinesLemmas.{lines_from, lines_by_steps, deeds_are, ended}
use Rattle.indicatif_bar.proofs.style.ProgressStyle.laid_out.Goals as goal

pub returns-then-is_empty-clause-lines : goal.returns-then-is_empty-clause-lines
returns-then-is_empty-clause-lines g c =
    let m = g.K.Tracks.means in
    let style = c.args.self.now in
    let state = c.args.state.now in
    let items = c.self.inside.steps.items in
    let does = effect_of c.deref-template.result.now in
    let made = ap (λ parts. map (effect_of parts) items) c.deref-template.ensures ∙ c.self.invariant.0 in
    let deeds = deeds_are c.self.inside.keys.items _ style (map does items) refl made c.self.view_is in
    let whole = ap (lines_from m style state c.args.now c.args.width None []) deeds ∙ sym (lines_by_steps m style state c.args.now c.args.width) in
    let steps = c.deref-step-items.result.now in
    let at = c.loop-step.step-index in
    let past : length steps ≤ at = omega (arith, c.loop-step-test.false, c.deref-step-items.ensures.len) in
    let left : map does (drop at steps) ≡ [] = ap (map does) (drop_of_length-le steps past) in
    let before = map line_text c.loop-step.lines.items in
    let wide = option_map wide_found c.loop-step.line.wide in
    let text = string_bytes c.loop-step.line.text in
    let rest : lines_from m style state c.args.now c.args.width wide text (map does (drop at steps)) ≡ [] = ended m style state c.args.now c.args.width wide text
    (map does (drop at steps)) true left (ap (λ t. length t == 0) (sym c.as_str-2.ensures.value) ∙ sym c.is_empty.ensures ∙ c.if-is_empty.true) in
    let all = c.loop-step.invariant.texts ∙ ap (λ xs. lines_from m style state c.args.now c.args.width None [] (map does xs)) c.deref-step-items.ensures.value ∙ whole in
    sym (append-nil before) ∙ ap (λ ls. before ++ ls) (sym rest) ∙ all

pub returns-clause-lines : goal.returns-clause-lines
returns-clause-lines g c =
    let m = g.K.Tracks.means in
    let style = c.args.self.now in
    let state = c.args.state.now in
    let items = c.self.inside.steps.items in
    let does = effect_of c.deref-template.result.now in
    let made = ap (λ parts. map (effect_of parts) items) c.deref-template.ensures ∙ c.self.invariant.0 in
    let deeds = deeds_are c.self.inside.keys.items _ style (map does items) refl made c.self.view_is in
    let whole = ap (lines_from m style state c.args.now c.args.width None []) deeds ∙ sym (lines_by_steps m style state c.args.now c.args.width) in
    let steps = c.deref-step-items.result.now in
    let at = c.loop-step.step-index in
    let past : length steps ≤ at = omega (arith, c.loop-step-test.false, c.deref-step-items.ensures.len) in
    let left : map does (drop at steps) ≡ [] = ap (map does) (drop_of_length-le steps past) in
    let before = map line_text c.loop-step.lines.items in
    let wide = option_map wide_found c.loop-step.line.wide in
    let text = string_bytes c.loop-step.line.text in
    let rest : lines_from m style state c.args.now c.args.width wide text
    (map does (drop at steps)) ≡ lines_with style state c.args.width wide text = ended m style state c.args.now c.args.width wide text
    (map does (drop at steps)) false left (ap (λ t. length t == 0) (sym c.as_str-2.ensures.value) ∙ sym c.is_empty.ensures ∙ c.if-is_empty.false) in
    let all = c.loop-step.invariant.texts ∙ ap (λ xs. lines_from m style state c.args.now c.args.width None [] (map does xs)) c.deref-step-items.ensures.value ∙ whole in
    c.in_ok-push_lines.ensures.lines ∙ ap (λ ls. before ++ ls) (sym rest) ∙ all
