use Rattle.std.proofs.Common.{subst}
use Rattle.indicatif_text.specs.Inside.StoredParts.{LieIn}
use Rattle.indicatif_text.proofs.StoredPartLemmas.{rest_in}
use Rattle.indicatif_text.proofs.template.PartsIterator.next.Goals as goal

pub invariant_of-self : goal.invariant_of-self
invariant_of-self c = rest_in c.self.inside.texts.now c.in_ok-stored.stored.now c.in_ok-stored.parts.now (subst (LieIn c.self.inside.texts.now) c.in_ok-stored.ensures.cases.0 c.self.invariant)
