use Rattle.std.proofs.Common.{refl}
use Rattle.indicatif_term.specs.Lists.{opening_lists}
use Rattle.indicatif_term.proofs.RememberedLemmas.{nothing_shown}
use Rattle.indicatif_term.proofs.DrawingLemmas.{opening_rests}
use Rattle.indicatif_term.proofs.EngineLemmas.{fits_made, suits_made}
use Rattle.indicatif_term.proofs.engine.Engine.new.Goals as goal

pub returns-clause-lists : goal.returns-clause-lists
returns-clause-lists g c = fits_made _ opening_lists c.new.ensures refl (λ e. cc) (nothing_shown c.nothing.result opening_lists c.nothing.ensures refl)

pub returns-clause-rests : goal.returns-clause-rests
returns-clause-rests g c = opening_rests

pub invariant_of-result : goal.invariant_of-result
invariant_of-result g c = record {
  some = ∣ (opening_lists, suits_made c.new.result c.nothing.result opening_lists c.new.ensures refl (nothing_shown c.nothing.result opening_lists c.nothing.ensures refl)) ∣₁;
}
