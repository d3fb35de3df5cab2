use Rattle.std.proofs.Common.{inl, refl}
use Rattle.indicatif.proofs.FrontLemmas.{made_as}
use Rattle.indicatif.proofs.shared.locked_bar.LockedBar.move_by.Goals as goal

pub returns-in-Alone : goal.returns-in-Alone
returns-in-Alone g c = rw c.in-Alone.is (c.apply_to.new.bar, refl, (c.now-now.result, record { was = c.bar.ensures.some; done = inl c.apply_to.ensures.bar; leads = c.apply_to.ensures.leads }))

pub returns-in-Member : goal.returns-in-Member
returns-in-Member g c = rw c.in-Member.is (made_as c.move_by.result (λ answer can. (refl, can)) c.move_by.ensures)
