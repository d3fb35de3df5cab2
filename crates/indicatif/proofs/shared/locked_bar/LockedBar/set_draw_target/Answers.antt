use Rattle.std.proofs.Common.{refl}
use Rattle.indicatif.proofs.shared.locked_bar.LockedBar.set_draw_target.Goals as goal

pub returns-in-Alone : goal.returns-in-Alone
returns-in-Alone g c = rw c.in-Alone.is (c.set_draw_target.new.self, refl, c.set_draw_target.ensures.bar, c.set_draw_target.ensures.new, refl)

pub returns-in-Member : goal.returns-in-Member
returns-in-Member g c = rw c.in-Member.is c.stand_after.ensures
