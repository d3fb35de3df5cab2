use Rattle.std.proofs.Common.{inl, refl}
use Rattle.indicatif.proofs.FrontLemmas.{tried_as}
use Rattle.indicatif.proofs.shared.locked_bar.LockedBar.update.Goals as goal

pub returns-in-Alone : goal.returns-in-Alone
returns-in-Alone g c =
    let u = c.update.ensures in
    rw c.in-Alone.is (u.0, u.1, (c.update.new.self, refl, (c.now-now.result, record { was = c.bar.ensures.some; done = inl u.2.bar; leads = u.2.leads })))

pub returns-in-Member : goal.returns-in-Member
returns-in-Member g c = rw c.in-Member.is (tried_as c.update-in-Member.result (λ answer can. (refl, can)) (λ again same. same) c.update-in-Member.ensures)
