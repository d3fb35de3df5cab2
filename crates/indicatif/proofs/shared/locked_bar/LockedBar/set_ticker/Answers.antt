use Rattle.std.proofs.Common.{refl}
use Rattle.indicatif.proofs.shared.locked_bar.LockedBar.set_ticker.Goals as goal

pub returns-in-Alone-clause-bar : goal.returns-in-Alone-clause-bar
returns-in-Alone-clause-bar g c = rw c.in-Alone.is (c.call.new.self, refl, (c.now-now.result, record { was = c.bar.ensures.some; done = c.call.ensures.bar; leads = c.call.ensures.leads }))
