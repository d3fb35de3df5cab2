use Rattle.std.proofs.Common.{inl, subst}
use Rattle.indicatif.specs.Inside.Requests.{LeavesSo}
use Rattle.indicatif.proofs.shared.locked_bar.LockedBar.stand_after.Goals as goal

pub returns-in-Left : goal.returns-in-Left
returns-in-Left g c = inl (c.new.result, c.stand.ensures, c.new.ensures.terminal, subst LeavesSo c.in-Left.is c.requires)
