use Rattle.std.specs.Fn.{FnOnceReturnsAt}
use Rattle.indicatif.proofs.FrontLemmas.{seat_reads}
use Rattle.indicatif.proofs.shared.any_bar.AnyBar.read.Goals as goal

pub returns-in-Member : goal.returns-in-Member
returns-in-Member g c = rw c.in-Member.is
    (seat_reads (FnOnceReturnsAt g.F.FnOnce c.args.f) (λ b. b.now.progress) c.bar-in-Member.result c.found_of-in-Member.result c.found_of-in-Member.ensures)
