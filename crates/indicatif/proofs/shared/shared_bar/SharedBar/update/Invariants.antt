use Rattle.std.proofs.Common.{◌≡◌}
use Rattle.indicatif.proofs.shared.shared_bar.SharedBar.update.Given as goal

abbrev pub invariant-loop : goal.invariant-loop
invariant-loop g l = l.left ≡ l.fn.f
