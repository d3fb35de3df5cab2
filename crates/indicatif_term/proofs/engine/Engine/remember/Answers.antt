use Rattle.indicatif_term.proofs.engine.Engine.remember.Goals as goal

pub invariant_of-self : goal.invariant_of-self
invariant_of-self g c = record { some = c.requires }
