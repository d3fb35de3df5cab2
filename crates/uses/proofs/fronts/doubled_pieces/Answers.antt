use Rattle.std.proofs.Common.{◌*◌, ◌%◌, ◌^◌, ap, ◌∙◌}
use Rattle.uses.proofs.SharedLemmas.{weaker, given}
use Rattle.uses.proofs.fronts.doubled_pieces.Goals as goal

pub returns-clause-made : goal.returns-clause-made
returns-clause-made g c = given c.run_workers.result _ _ c.run_workers.ensures.answers
    (λ made all. weaker _ _ (λ piece answers each. weaker _ _ (λ x y at. at.says.met ∙ ap (λ k. k * 2 % 2 ^ 32) at.shows) _ _ each) _ _ all)
