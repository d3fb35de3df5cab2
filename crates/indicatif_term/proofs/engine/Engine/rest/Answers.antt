use Rattle.std.proofs.Common.{sym, subst}
use Rattle.indicatif_term.specs.Lists.{Lists}
use Rattle.indicatif_term.specs.Remembered.{Suits}
use Rattle.indicatif_term.proofs.engine.Engine.rest.Goals as goal

pub invariant_of-self : goal.invariant_of-self
invariant_of-self g c = record { some = subst (λ b. ∥ ((l : Lists) × Suits c.args.next b c.args.self.now.shown l) ∥₁) (sym c.requires.sound) c.requires.suits }
