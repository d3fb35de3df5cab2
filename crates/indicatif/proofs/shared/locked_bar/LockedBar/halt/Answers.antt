use Rattle.std.proofs.Common.{refl}
use Rattle.indicatif.proofs.shared.locked_bar.LockedBar.halt.Goals as goal

pub returns-in-Alone : goal.returns-in-Alone
returns-in-Alone g c = rw c.in-Alone.is (c.pause_of.new.bar, refl, (c.now-now.result, c.pause_of.ensures.made))
