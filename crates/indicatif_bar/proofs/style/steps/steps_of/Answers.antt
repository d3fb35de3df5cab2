use Rattle.std.proofs.Common.{◌≡◌, ◌∙◌, ◌∷◌, [], Some, None, sym, ap, arith, length, length-append, map}
use Rattle.std.specs.Prelude.{option_map}
use Rattle.std.specs.List.{slice_get}
use Rattle.std.proofs.lemmas.List.{take_all}
use Rattle.std.proofs.lemmas.Option.{slice_get_within}
use Rattle.indicatif_text.specs.Template.{part_of}
use Rattle.indicatif_bar.specs.Inside.Steps.{names_of, effect_of, effect_of_part}
use Rattle.indicatif_bar.proofs.StepLemmas.{step_more, past_parts}
use Rattle.indicatif_bar.proofs.style.steps.steps_of.Goals as goal

pub parts-preserved : goal.parts-preserved
parts-preserved g c =
    let parts = c.args.template.now in
    let before = c.parts.steps.items in
    let count : length before ≡ c.len.result = omega (arith, c.len.ensures, c.parts.steps.ok.0) in
    let again : c.len-in-Some.result ≡ length before = omega (arith, c.len-in-Some.ensures, c.parts.steps.ok.0) in
    let at : slice_get parts (length before) ≡ Some (part_of c.in-Some.part) = ap (slice_get parts) count ∙ sym c.in-Some.ensures in
    record {
      does = step_more (effect_of parts) (effect_of_part (names_of c.args.keys.now) c.args.tab) parts before c.push.new.self.items (part_of c.in-Some.part) c.in_ok-step.step
          c.parts.invariant.does c.in_ok-push.ensures.items at (c.in_ok-step.ensures.step parts (ap (slice_get parts) again ∙ at));
      within = omega (arith, slice_get_within parts (length before) (part_of c.in-Some.part) at, ap length c.in_ok-push.ensures.items, length-append before (c.in_ok-step.step ∷ []));
    }

pub returns-clause-steps : goal.returns-clause-steps
returns-clause-steps g c =
    let parts = c.args.template.now in
    let made = c.parts.steps.items in
    let count : length made ≡ c.len.result = omega (arith, c.len.ensures, c.parts.steps.ok.0) in
    let none : slice_get parts (length made) ≡ None = ap (slice_get parts) count ∙ sym c.part.ensures ∙ ap (option_map part_of) c.in_default.is in
    c.parts.invariant.does
    ∙ ap (map (effect_of_part (names_of c.args.keys.now) c.args.tab)) (take_all (length made) parts (omega (arith, past_parts parts (length made) none, c.parts.invariant.within)))
