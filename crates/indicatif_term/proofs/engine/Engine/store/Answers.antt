use Rattle.std.proofs.Common.{sym, subst}
use Rattle.indicatif_term.specs.Lists.{Lists}
use Rattle.indicatif_term.specs.Remembered.{Suits}
use Rattle.indicatif_term.proofs.engine.Engine.store.Goals as goal

pub invariant_of-self : goal.invariant_of-self
invariant_of-self g c =
    let e = c.args.self.now in
    record { some = subst (λ r. ∥ ((l : Lists) × Suits e.counts e.failed r l) ∥₁) (sym c.in_err-put.ensures.refused.2) e.some }

pub invariant_of-self-2 : goal.invariant_of-self-2
invariant_of-self-2 g c = let next = c.in_ok-put.ensures.next in record { some = c.requires.suits c.put.new.self next.0 next.1 next.2 }
