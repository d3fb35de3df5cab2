use Rattle.std.proofs.Common.{◌*◌, ◌%◌, ◌^◌, length, ap, ◌∙◌}
use Rattle.std.proofs.lemmas.Result.{on_ok_weaker}
use Rattle.indicatif.specs.Wrap.{inner_of}
use Rattle.uses.proofs.SharedLemmas.{weaker, given}
use Rattle.uses.proofs.fronts.doubled.Goals as goal

pub returns-clause-numbers : goal.returns-clause-numbers
returns-clause-numbers g c = given c.map_collect.result.0 _ _ c.map_collect.ensures.list
    (λ made all. weaker _ _ (λ x y at. at.says.met ∙ ap (λ k. k * 2 % 2 ^ 32) at.shows) _ _ all)

pub returns-clause-bar : goal.returns-clause-bar
returns-clause-bar g c = on_ok_weaker c.map_collect.result.0
    (λ blocks. c.blocks_add_up.ensures (length (inner_of c.args.list).now) c.args.list.progress c.map_collect.result.1 blocks)
    c.map_collect.ensures.bar
