use Rattle.std.proofs.Common.{refl, ap}
use Rattle.indicatif.specs.declared.shared.any_bar.AnyBar.TheVariants.{Alone}
use Rattle.indicatif.proofs.FrontLemmas.{made_or}
use Rattle.indicatif.proofs.shared.locked_bar.LockedBar.end.Goals as goal

pub returns-in-Alone-clause-ends : goal.returns-in-Alone-clause-ends
returns-in-Alone-clause-ends g c =
    let made = c.finish_unfinished.ensures in
    rw c.in-Alone.is (λ f. ap Alone (made.finished f), λ u. (c.finish_unfinished.new.bar, refl, (c.now-now.result, made.unfinished u)))

pub returns-in-Member-clause-ends : goal.returns-in-Member-clause-ends
returns-in-Member-clause-ends g c = rw c.in-Member.is (made_or c.lose_owner.result (λ answer can. (refl, can)) (λ again. refl) c.lose_owner.ensures)
