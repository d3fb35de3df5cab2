use Rattle.std.proofs.Common.{refl}
use Rattle.indicatif.proofs.shared.locked_bar.LockedBar.tell.Goals as goal

pub returns-in-Alone-clause-bar : goal.returns-in-Alone-clause-bar
returns-in-Alone-clause-bar g c = rw c.in-Alone.is (c.tell.new.self, refl, (c.now-now.result, record { was = c.bar.ensures.some; done = c.tell.ensures.bar; leads = c.tell.ensures.leads }))

pub returns-in-Some-clause-bar : goal.returns-in-Some-clause-bar
returns-in-Some-clause-bar g c = rw c.in-Member.is (refl, c.tell-in-Some.ensures.can)

pub returns-in-None-clause-bar : goal.returns-in-None-clause-bar
returns-in-None-clause-bar g c = rw c.in-Member.is (refl, refl)
