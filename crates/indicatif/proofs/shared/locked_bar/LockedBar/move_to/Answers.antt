use Rattle.std.proofs.Common.{refl}
use Rattle.indicatif.proofs.shared.locked_bar.LockedBar.move_to.Goals as goal

pub returns-in-Alone : goal.returns-in-Alone
returns-in-Alone g c = rw c.in-Alone.is (
  c.clear-cleared.new.self,
  c.set_draw_target.new.self,
  refl,
  (c.now-now.result, record { was = c.bar.ensures.some; done = c.clear-cleared.ensures.bar; leads = c.clear-cleared.ensures.leads }),
  c.set_draw_target.ensures.bar,
  c.set_draw_target.ensures.new,
)

pub returns-in-Member : goal.returns-in-Member
returns-in-Member g c = rw c.in-Member.is c.stand_after.ensures
