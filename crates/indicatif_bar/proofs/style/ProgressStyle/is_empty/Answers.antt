use Rattle.std.proofs.Common.{◌<◌, ◌≤◌, ◌∙◌, refl, sym, ap, arith, length, map}
use Rattle.std.specs.List.{list_all}
use Rattle.indicatif_bar.specs.Inside.Steps.{effect_of, is_empty_effect}
use Rattle.indicatif_bar.proofs.LinesLemmas.{deeds_are}
use Rattle.indicatif_bar.proofs.EmptyStyleLemmas.{empty_by_steps, some_step, no_step}
use Rattle.indicatif_bar.proofs.style.ProgressStyle.is_empty.Goals as goal

pub returns-then-not-is_empty_step : goal.returns-then-not-is_empty_step
returns-then-not-is_empty_step g c =
    let style = c.args.self.now in
    let state = c.args.state.now in
    let items = c.self.inside.steps.items in
    let steps = c.deref-step-items.result.now in
    let does = effect_of c.deref-template.result.now in
    let made = ap (λ parts. map (effect_of parts) items) c.deref-template.ensures ∙ c.self.invariant.0 in
    let deeds = deeds_are c.self.inside.keys.items _ style (map does items) refl made c.self.view_is in
    let whole = empty_by_steps style state ∙ ap (list_all (is_empty_effect style state)) (sym deeds) in
    let all = ap (λ xs. list_all (is_empty_effect style state) (map does xs)) c.deref-step-items.ensures.value in
    let within : c.loop-step.step-index < length steps = omega (arith, c.loop-step-test.true, c.deref-step-items.ensures.len) in
    sym (some_step (is_empty_effect style state) does steps c.loop-step.step-index c.step-item.result within c.step-item.is
    (sym c.is_empty_step.ensures ∙ c.if-not-is_empty_step.true))
    ∙ c.loop-step.invariant ∙ all ∙ sym whole

pub returns : goal.returns
returns g c =
    let style = c.args.self.now in
    let state = c.args.state.now in
    let items = c.self.inside.steps.items in
    let steps = c.deref-step-items.result.now in
    let does = effect_of c.deref-template.result.now in
    let made = ap (λ parts. map (effect_of parts) items) c.deref-template.ensures ∙ c.self.invariant.0 in
    let deeds = deeds_are c.self.inside.keys.items _ style (map does items) refl made c.self.view_is in
    let whole = empty_by_steps style state ∙ ap (list_all (is_empty_effect style state)) (sym deeds) in
    let all = ap (λ xs. list_all (is_empty_effect style state) (map does xs)) c.deref-step-items.ensures.value in
    let past : length steps ≤ c.loop-step.step-index = omega (arith, c.loop-step-test.false, c.deref-step-items.ensures.len) in
    sym (no_step (is_empty_effect style state) does steps c.loop-step.step-index past)
    ∙ c.loop-step.invariant ∙ all ∙ sym whole
