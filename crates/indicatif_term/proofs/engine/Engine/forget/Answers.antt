use Rattle.std.proofs.Common.{refl}
use Rattle.indicatif_term.specs.Lists.{forgotten_lists}
use Rattle.indicatif_term.proofs.RememberedLemmas.{nothing_shown}
use Rattle.indicatif_term.proofs.engine.Engine.forget.Goals as goal

pub invariant_of-self : goal.invariant_of-self
invariant_of-self g c =
    let none = nothing_shown c.nothing.result forgotten_lists c.nothing.ensures refl in
    record { some = ∣ (forgotten_lists, record { counted = c.forgotten-self.ensures; failed_is = refl; forgets = λ e. refl; remembered = none.0; owned = none.1 }) ∣₁ }
